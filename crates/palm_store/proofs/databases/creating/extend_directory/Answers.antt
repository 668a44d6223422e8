-- Only lack of room keeps the directory from growing; the slot is written over its last bytes.
use Rattle.palm_store.proofs.Laws.{refl, ap, arith, ◌≡◌, ◌+◌, length, rules, need, directory_of, ShortFor, directory_bytes, NotEnoughSpace, managers_loose, if_err, on_err, keeps_then, the_directory, directory_owned, directory_loose, loose_movable, directory_few, directory_short, grown_room, growth_short, sized_here, extended, managers_here, owned_here}
use Rattle.palm_store.proofs.databases.creating.extend_directory.Goals as goal

pub sys_find-chunk-requires : goal.sys_find-chunk-requires
sys_find-chunk-requires c = directory_loose c.args.heap.now.bytes c.directory-directory.result.0 c.requires.heap (the_directory c.args.heap.now.bytes c.directory-directory.result.0 c.requires.heap c.requires.some c.directory-directory.ensures)

pub overflow_cast-length : goal.overflow_cast-length
overflow_cast-length c = let few = directory_few c.args.heap.now.bytes c.sys_body_found.result.now c.directory-directory.result.0 c.directory-directory.ensures c.requires.few c.sys_body_found.ensures in omega (arith, few)

pub overflow_add-length : goal.overflow_add-length
overflow_add-length c = let few = directory_few c.args.heap.now.bytes c.sys_body_found.result.now c.directory-directory.result.0 c.directory-directory.ensures c.requires.few c.sys_body_found.ensures in omega (arith, few)

pub returns-in_err-sys_resize-clause-no_room : goal.returns-in_err-sys_resize-clause-no_room
returns-in_err-sys_resize-clause-no_room c =
    let o = the_directory c.args.heap.now.bytes c.directory-directory.result.0 c.requires.heap c.requires.some c.directory-directory.ensures in
    let loose = managers_loose c.args.heap.now.bytes c.directory-directory.result.0 o.live c.requires.heap o.there o.own in
    on_err (ShortFor c.args.heap.now.bytes (directory_of c.args.heap.now.bytes) (need (length (directory_bytes c.args.heap.now.bytes) + 4))) c.from_residual.result
    (directory_short c.args.heap.now.bytes c.sys_body_found.result.now c.directory-directory.result.0 (length c.sys_body_found.result.now + 4) c.directory-directory.ensures c.sys_body_found.ensures refl
    (growth_short c.args.heap.now c.directory-directory.result.0 (length c.sys_body_found.result.now + 4) o.live c.in_err-sys_resize.field-0.0 o.there loose (c.sys_resize.ensures.managers (directory_owned c.args.heap.now.bytes c.directory-directory.result.0 c.requires.heap c.requires.some c.directory-directory.ensures)) c.in_err-sys_resize.ensures.why).2)

pub returns-in_err-sys_resize-clause-refusal : goal.returns-in_err-sys_resize-clause-refusal
returns-in_err-sys_resize-clause-refusal c =
    let o = the_directory c.args.heap.now.bytes c.directory-directory.result.0 c.requires.heap c.requires.some c.directory-directory.ensures in
    let loose = managers_loose c.args.heap.now.bytes c.directory-directory.result.0 o.live c.requires.heap o.there o.own in
    if_err (λ refusal. refusal ≡ NotEnoughSpace) c.from_residual.result (let e = c.from_residual.ensures in (e.0, e.1))
    (growth_short c.args.heap.now c.directory-directory.result.0 (length c.sys_body_found.result.now + 4) o.live c.in_err-sys_resize.field-0.0 o.there loose (c.sys_resize.ensures.managers (directory_owned c.args.heap.now.bytes c.directory-directory.result.0 c.requires.heap c.requires.some c.directory-directory.ensures)) c.in_err-sys_resize.ensures.why).0

pub sys_find-grown-requires : goal.sys_find-grown-requires
sys_find-grown-requires c =
    let o = the_directory c.args.heap.now.bytes c.directory-directory.result.0 c.requires.heap c.requires.some c.directory-directory.ensures in
    loose_movable c.sys_resize.new.self.bytes c.directory-directory.result.0 _ (sized_here c.args.heap.now.bytes c.sys_resize.new.self.bytes c.directory-directory.result.0 (length c.sys_body_found.result.now + 4) o.live c.in_ok-sys_resize.ensures.done o.there)
    (managers_loose c.args.heap.now.bytes c.directory-directory.result.0 o.live c.requires.heap o.there o.own)

pub sys_write-requires-clause-within : goal.sys_write-requires-clause-within
sys_write-requires-clause-within c =
    let o = the_directory c.args.heap.now.bytes c.directory-directory.result.0 c.requires.heap c.requires.some c.directory-directory.ensures in
    grown_room c.args.heap.now.bytes c.sys_resize.new.self.bytes c.sys_body_found.result.now c.slot_bytes.result c.directory-directory.result.0 (length c.sys_body_found.result.now + 4) c.args.slot.0 o c.in_ok-sys_resize.ensures.done c.sys_body_found.ensures refl c.slot_bytes.ensures

pub returns-clause-lists : goal.returns-clause-lists
returns-clause-lists c = extended c.args.heap.now.bytes c.sys_resize.new.self.bytes c.sys_write.new.self.bytes c.directory-directory.result.0 c.args.slot.0 (length c.sys_body_found.result.now + 4) (length c.sys_body_found.result.now) c.slot_bytes.result c.requires.heap c.requires.some
    c.directory-directory.ensures (ap length c.sys_body_found.ensures) refl c.in_ok-sys_resize.ensures.done c.sys_write.ensures.leaves c.slot_bytes.ensures

pub sys_body_found-requires-clause-here : goal.sys_body_found-requires-clause-here
sys_body_found-requires-clause-here c = managers_here c.args.heap.now c.directory-directory.result.0 (directory_owned c.args.heap.now.bytes c.directory-directory.result.0 c.requires.heap c.requires.some c.directory-directory.ensures)

pub sys_write-requires-clause-here : goal.sys_write-requires-clause-here
sys_write-requires-clause-here c =
    let o = the_directory c.args.heap.now.bytes c.directory-directory.result.0 c.requires.heap c.requires.some c.directory-directory.ensures in
    owned_here c.sys_resize.new.self c.directory-directory.result.0 _ (sized_here c.args.heap.now.bytes c.sys_resize.new.self.bytes c.directory-directory.result.0 (length c.sys_body_found.result.now + 4) o.live c.in_ok-sys_resize.ensures.done o.there) o.own

pub returns-clause-kept : goal.returns-clause-kept
returns-clause-kept c = record {
  loan = keeps_then c.args.heap.now c.sys_resize.new.self c.sys_write.new.self
      c.sys_resize.ensures.loan c.sys_write.ensures.loan;
  rest = search rules;
}
