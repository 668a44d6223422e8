-- A call that was done.
use Rattle.palmheap_c.proofs.Words.{◌≡◌, refl, Call, DoesInStore, Reply, DoesInC, Opened}

pub is_done : {old new : Opened} {call : Call} {reply : Reply}
    → DoesInStore old.memory call reply new.memory → new.pointers ≡ old.pointers
    → DoesInC old call reply 0 new
is_done step same =
    record { done = λ ok. step; refused = λ not. absurd (not refl); pointers = same }
