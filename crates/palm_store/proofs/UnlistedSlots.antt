-- A slot is taken out of the directory: later bytes slide to the front, and the chunk shrinks.
use Rattle.palm_store.proofs.Words.{◌≡◌, ℕ, ◌+◌, ◌-◌, ◌*◌, ◌<◌, ◌≤◌, List, ◌++◌, length, take, drop, Some, Result, Ok, Err, refl, sym, ap, ◌∙◌, arith, length-take, length-drop, slice_range, IfErr, IsOk, overwritten, sized_to, need, HeapAccepted, directory_of, Memory, IsLent, LiveChunk, held, put, sized, Leaves, bytes_under, directory_bytes, FirstBrings, growth_checks, Refusal, managers_loose, closed_up, Unlists}
use Rattle.laws_heap.proofs.Frames.{length-overwritten}
use Rattle.palm_store.proofs.Maps.{bytes_held, others_now}
use Rattle.palm_store.proofs.ListedSlots.{put_here, sized_here, the_directory, growth_short}
use Rattle.palm_store.proofs.TwoSteps.{changed_keeps, then_again}

need_least : (fewer more : ℕ) → fewer ≤ more → need fewer ≤ need more
need_least fewer more less = omega arith

-- what no check refuses is done
pub never_refused : (result : Result Unit Refusal) (refuses : Refusal → Type 0) → IfErr result refuses → ((refusal : Refusal) → refuses refusal → ⊥) → IsOk result
never_refused (Ok done) refuses why never = refl
never_refused (Err refusal) refuses why never = absurd (never refusal why)

-- a chunk without a lock is not refused to shrink
pub shrinks : (old : Memory) (name size : ℕ) (live : LiveChunk) (refusal : Refusal) → held old.bytes name ≡ Some live → live.lock ≡ 0 → (IsLent old name → ⊥) → size ≤ length live.bytes → FirstBrings (growth_checks old (held old.bytes) name size) refusal → ⊥
shrinks old name size live refusal e loose here fewer brings =
    let short = (growth_short old name size live refusal e loose here brings).1 in
    let least = need_least size (length live.bytes) fewer in
    omega (arith, short, least)

pub unlisted : (old mid new : List ℕ) (directory index at stop size : ℕ) → HeapAccepted old → 0 < directory_of old → directory ≡ directory_of old → at ≡ 4 * index → at + 4 ≤ length (bytes_under old directory) → stop ≡ length (bytes_under old directory) → size ≡ length (bytes_under old directory) - 4
    → Leaves old mid (put (held old) directory at (slice_range (bytes_under old directory) (at + 4) stop)) → Leaves mid new (sized (held mid) directory size) → Unlists old new index
unfolding directory_bytes
unlisted old mid new directory index at stop size h some is at_is inside stop_is size_is p s =
    let o = the_directory old directory h some is in
    let bytes = bytes_held old directory o.live o.there in
    let part : List ℕ = slice_range (bytes_under old directory) (at + 4) stop in
    let both = then_again directory _ _ (changed_keeps old mid directory (λ x. record x { bytes = overwritten x.bytes at part }) (λ live. refl) p) p s in
    let now : bytes_under new directory ≡ sized_to (overwritten o.live.bytes at part) size = bytes_held new directory _ (sized_here mid new directory size _ s (put_here old mid directory at part o.live p o.there)) in
    let closed : sized_to (overwritten o.live.bytes at part) size ≡ take at (bytes_under old directory) ++ drop (at + 4) (bytes_under old directory) = rw (← bytes, stop_is, size_is) (closed_up (bytes_under old directory) at 4 inside) in
    let word = both.frame.directory in
    record {
      accepted = both.frame.accepted;
      len = both.frame.len;
      tables = both.frame.tables;
      directory = word;
      still = both.still;
      others = λ name other. others_now directory _ both name (λ e. other (e ∙ is));
      left = ap (bytes_under new) (word ∙ sym is) ∙ now ∙ closed ∙ rw (at_is, is) refl;
    }

-- the directory before its chunk shrinks is as long, and has no lock
pub record Slid (image : List ℕ) (name long : ℕ) : Type 0 where
  pub live : LiveChunk
  pub there : held image name ≡ Some live
  pub loose : live.lock ≡ 0
  pub own : live.owner ≡ 0
  pub size : length live.bytes ≡ long

pub directory_slid : (old mid : List ℕ) (directory at stop : ℕ) → HeapAccepted old → 0 < directory_of old → directory ≡ directory_of old → at + 4 ≤ length (bytes_under old directory) → stop ≡ length (bytes_under old directory)
    → Leaves old mid (put (held old) directory at (slice_range (bytes_under old directory) (at + 4) stop)) → Slid mid directory (length (bytes_under old directory))
directory_slid old mid directory at stop h some is inside stop_is p =
    let o = the_directory old directory h some is in
    let part : List ℕ = slice_range (bytes_under old directory) (at + 4) stop in
    let bytes = ap length (bytes_held old directory o.live o.there) in
    record {
      live = _;
      there = put_here old mid directory at part o.live p o.there;
      loose = managers_loose old directory o.live h o.there o.own;
      own = o.own;
      size = length-overwritten o.live.bytes at part (simp (length-take, length-drop) (omega (arith, bytes, inside, stop_is))) ∙ sym bytes;
    }

-- how long the directory is
pub directory_long : (image body : List ℕ) (name : ℕ) → name ≡ directory_of image → body ≡ bytes_under image name → length body ≡ length (directory_bytes image)
unfolding directory_bytes
directory_long image body name is body_is = ap length (body_is ∙ ap (bytes_under image) is)
