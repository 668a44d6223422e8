-- `palmheap_pdb_read` returns what is read of a file, by the laws of EntryLaws.
use Rattle.palmheap_c.proofs.Laws.{ℕ, List, inl, inr, refl, subst, IsOpenFault, IsRead, outputs, is_read}
use Rattle.palmheap_c.proofs.file_entries.palmheap_pdb_read.Goals as goal

pub returns-in-Err-OutOfMemory : goal.returns-in-Err-OutOfMemory
returns-in-Err-OutOfMemory c =
    let what = c.in-Err-OutOfMemory.field-0-is in
    inr (inr (
      inr (
        subst (IsOpenFault c.args.file.now) what c.in-Err-OutOfMemory.ensures.why,
        (refl, c.open.ensures.short (let is = c.in-Err-OutOfMemory.is in cc)),
      ),
      refl,
    ))

pub returns : goal.returns
returns c =
    let was =
    outputs c.args.header.now c.args.app.now c.args.sort.now c.args.entries.now c.args.count.now in
    let new = outputs c.of_database.result c.block_at.result c.block_at-2.result
    c.put_entries.new.to c.entry_count.result in
    inl (
      refl,
      subst (λ (file : List ℕ). IsRead file was new) c.in-Ok.ensures.opened
          (is_read _ c.header.result c.info.result was new c.know_file.ensures.good
          c.know_file.ensures.places c.header.ensures.is c.info.ensures c.of_database.ensures.told
          c.of_database.ensures.field c.block_at.ensures c.block_at-2.ensures c.entry_count.ensures
          c.put_entries.ensures.read c.put_entries.ensures.others),
    )
