-- The directory has no lock, and a chunk without one is never refused to shrink.
use Rattle.palm_store.proofs.Laws.{refl, ap, subst, ◌∙◌, ◌≡◌, ◌+◌, ◌-◌, ◌*◌, arith, ℕ, length, Result, rules, OnOk, Leaves, sized, growth_checks, held, FirstBrings, Refusal, bytes_under, keeps_then, the_directory, directory_owned, directory_loose, owner_held, managers_here}
use Rattle.palm_store.proofs.UnlistedSlots.{never_refused, shrinks, unlisted, directory_slid, directory_long}
use Rattle.palm_store.proofs.databases.deleting.unlist.Goals as goal

pub sys_find-chunk-requires : goal.sys_find-chunk-requires
sys_find-chunk-requires c = directory_loose c.args.heap.now.bytes c.directory-directory.result.0 c.requires.heap (the_directory c.args.heap.now.bytes c.directory-directory.result.0 c.requires.heap c.requires.some c.directory-directory.ensures)

pub overflow_cast-length : goal.overflow_cast-length
overflow_cast-length c = let long = directory_long c.args.heap.now.bytes c.sys_body_found.result.now c.directory-directory.result.0 c.directory-directory.ensures c.sys_body_found.ensures in let few = c.requires.few in omega (arith, long, few)

pub overflow_sub-length : goal.overflow_sub-length
overflow_sub-length c = let long = directory_long c.args.heap.now.bytes c.sys_body_found.result.now c.directory-directory.result.0 c.directory-directory.ensures c.sys_body_found.ensures in let inside = c.requires.inside in omega (arith, long, inside)

pub sys_slide-requires-clause-from_within : goal.sys_slide-requires-clause-from_within
sys_slide-requires-clause-from_within c =
    let long = directory_long c.args.heap.now.bytes c.sys_body_found.result.now c.directory-directory.result.0 c.directory-directory.ensures c.sys_body_found.ensures in
    let inside = c.requires.inside in
    let body = ap length c.sys_body_found.ensures in
    omega (arith, long, inside, body)

pub sys_slide-requires-clause-to_within : goal.sys_slide-requires-clause-to_within
sys_slide-requires-clause-to_within c =
    let long = directory_long c.args.heap.now.bytes c.sys_body_found.result.now c.directory-directory.result.0 c.directory-directory.ensures c.sys_body_found.ensures in
    let inside = c.requires.inside in
    let body = ap length c.sys_body_found.ensures in
    omega (arith, long, inside, body)

pub overflow_sub-length-2 : goal.overflow_sub-length-2
overflow_sub-length-2 c = let long = directory_long c.args.heap.now.bytes c.sys_body_found.result.now c.directory-directory.result.0 c.directory-directory.ensures c.sys_body_found.ensures in let inside = c.requires.inside in omega (arith, long, inside)

pub unwrap-requires : goal.unwrap-requires
unwrap-requires c =
    let long = directory_long c.args.heap.now.bytes c.sys_body_found.result.now c.directory-directory.result.0 c.directory-directory.ensures c.sys_body_found.ensures in
    let inside = c.requires.inside in
    let body : length c.sys_body_found.result.now ≡ length (bytes_under c.args.heap.now.bytes c.directory-directory.result.0) = ap length c.sys_body_found.ensures in
    let s = directory_slid c.args.heap.now.bytes c.sys_slide.new.self.bytes c.directory-directory.result.0 (4 * c.args.index) (4 * c.args.index + 4 + (length c.sys_body_found.result.now - (4 * c.args.index + 4))) c.requires.heap c.requires.some c.directory-directory.ensures
    (omega (arith, long, inside, body)) (omega (arith, long, inside, body)) c.sys_slide.ensures.leaves in
    let size = s.size in
    never_refused c.sys_resize.result (FirstBrings (growth_checks c.sys_slide.new.self (held c.sys_slide.new.self.bytes) c.directory-directory.result.0 (length c.sys_body_found.result.now - 4))) c.sys_resize.ensures.why
    (λ refusal why. shrinks c.sys_slide.new.self c.directory-directory.result.0 (length c.sys_body_found.result.now - 4) s.live refusal s.there s.loose (c.sys_resize.ensures.managers (owner_held c.sys_slide.new.self.bytes c.directory-directory.result.0 s.live s.there ∙ s.own)) (omega (arith, size, body)) why)

pub returns-clause-unlists : goal.returns-clause-unlists
returns-clause-unlists c =
    let long = directory_long c.args.heap.now.bytes c.sys_body_found.result.now c.directory-directory.result.0 c.directory-directory.ensures c.sys_body_found.ensures in
    let inside = c.requires.inside in
    let body : length c.sys_body_found.result.now ≡ length (bytes_under c.args.heap.now.bytes c.directory-directory.result.0) = ap length c.sys_body_found.ensures in
    unlisted c.args.heap.now.bytes c.sys_slide.new.self.bytes c.sys_resize.new.self.bytes c.directory-directory.result.0 c.args.index (4 * c.args.index) (4 * c.args.index + 4 + (length c.sys_body_found.result.now - (4 * c.args.index + 4)))
    (length c.sys_body_found.result.now - 4) c.requires.heap c.requires.some c.directory-directory.ensures refl (omega (arith, long, inside, body)) (omega (arith, long, inside, body)) (ap (λ (k : ℕ). k - 4) body) c.sys_slide.ensures.leaves
    (subst (λ (result : Result Unit Refusal). OnOk result (Leaves c.sys_slide.new.self.bytes c.sys_resize.new.self.bytes (sized (held c.sys_slide.new.self.bytes) c.directory-directory.result.0 (length c.sys_body_found.result.now - 4)))) c.unwrap.ensures c.sys_resize.ensures.done)

pub sys_body_found-requires-clause-here : goal.sys_body_found-requires-clause-here
sys_body_found-requires-clause-here c = managers_here c.args.heap.now c.directory-directory.result.0 (directory_owned c.args.heap.now.bytes c.directory-directory.result.0 c.requires.heap c.requires.some c.directory-directory.ensures)

pub sys_slide-requires-clause-here : goal.sys_slide-requires-clause-here
sys_slide-requires-clause-here c = managers_here c.args.heap.now c.directory-directory.result.0 (directory_owned c.args.heap.now.bytes c.directory-directory.result.0 c.requires.heap c.requires.some c.directory-directory.ensures)

pub returns-clause-kept : goal.returns-clause-kept
returns-clause-kept c = record {
  loan = keeps_then c.args.heap.now c.sys_slide.new.self c.sys_resize.new.self
      c.sys_slide.ensures.loan c.sys_resize.ensures.loan;
  rest = search rules;
}
