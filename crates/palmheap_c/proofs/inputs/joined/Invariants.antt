-- The loop of `joined` keeps its invariant: the files so far are joined, and each has its end.
use Rattle.palmheap_c.proofs.Words.{◌≡◌, take, ends_from, joined}
use Rattle.palmheap_c.proofs.inputs.joined.Given as goal

abbrev pub invariant-loop-file : goal.invariant-loop-file
invariant-loop-file l = (l.all.items ≡ joined (take l.file-index l.files))
    × (l.ends.items ≡ ends_from 0 (take l.file-index l.files))
