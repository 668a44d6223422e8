-- The script ran on the store of the image, and out of memory means that an allocation failed.
use Rattle.palmheap_c.proofs.Laws.{◌≡◌, ◌∙◌, [], Err, ap, inl, refl, sym, subst, Opened, IsOpenStore, ran}
use Rattle.std.proofs.Common.{Some}
use Rattle.palm_script.specs.declared.runs.RunFault.TheVariants.{OutOfMemory}
use Rattle.palmheap_c.proofs.runs.run_on.Goals as goal

pub returns-in-Ok-ran-clause-ran : goal.returns-in-Ok-ran-clause-ran
returns-in-Ok-ran-clause-ran c =
    let before : Some c.new-out.result.writer.items ≡ Some [] =
    rw c.new-out.ensures (ap Some c.new.ensures.items) in
    let after : Some c.run-ran.new.out.writer.items ≡ Some c.into_inner.result.items =
    rw c.into_inner.ensures refl in
    let held : c.deref_mut-2.result.now ≡ c.in-Ok.read.0.held.value.memory =
    c.deref_mut-2.ensures.value
    ∙ ap (λ (it : Opened). it.memory) (c.behind-boxed.view_is ∙ c.deref_mut.ensures.value) in
    rw c.region_of-after.ensures.same (ran _ c.args.image.now c.args.script.now c.args.inputs.now
    c.deref_mut-2.result.now c.run-ran.new.store c.in-Ok.read.1 c.new-out.result c.run-ran.new.out
    c.into_inner.result.items c.in-Ok-ran.files.items (subst (IsOpenStore c.args.image.now)
    (sym held) c.in-Ok.ensures.store) c.in-Ok.ensures.script (rw c.region_of-after.ensures.same at
    c.region_of-after.ensures.accepted) c.in-Ok-ran.ensures.ok_short before after)

pub returns-in-Err-OutOfMemory-clause-refused : goal.returns-in-Err-OutOfMemory-clause-refused
returns-in-Err-OutOfMemory-clause-refused c =
    let what : c.in-Err-OutOfMemory.field-0 ≡ OutOfMemory =
    rw c.in-Err-OutOfMemory.is at c.in-Err-OutOfMemory.field-0-is in
    inl (refl, c.run-ran.ensures.no_memory (rw c.in-Err-OutOfMemory.is (ap Err what)))
