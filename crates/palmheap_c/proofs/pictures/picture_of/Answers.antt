-- Without a picture, as text or as SVG, the image has a fault, or an allocation failed.
use Rattle.std.proofs.Common.{◌≡◌, Err, IfErr, inl, refl, sym, subst, ap, ◌∙◌}
use Rattle.heap_map.specs.Pictures.{IsMapFault}
use Rattle.heap_map.specs.declared.picture.MapFault.TheVariants.{BadImage, OutOfMemory}
use Rattle.palmheap_c.proofs.PictureLaws.{not_drawn}
use Rattle.palmheap_c.proofs.pictures.picture_of.Goals as goal
use Rattle.palmheap_c.proofs.pictures.picture_of.Goals.{in-Text, in-Svg}

pub returns-in-Err-BadImage-clause-err : goal.returns-in-Err-BadImage-clause-err
returns-in-Err-BadImage-clause-err c =
    let bytes = c.in-Ok.region.bytes in
    let fault = c.in-Err-BadImage.fault in
    let what : c.in-Err-BadImage.field-0 ≡ BadImage fault =
    rw c.in-Err-BadImage.is at c.in-Err-BadImage.field-0-is in
    let is : c.match-form.put ≡ Err (BadImage fault) = c.in-Err-BadImage.is ∙ ap Err what in
    let why : IsMapFault bytes (BadImage fault) =
    elim c.match-form.branch [
      | in-Text w ↦
          subst (λ r. IfErr r (IsMapFault bytes)) (sym w.put-is ∙ is) w.put_map-put.ensures.why
      | in-Svg w ↦
          subst (λ r. IfErr r (IsMapFault bytes)) (sym w.put-is ∙ is) w.put_svg-put.ensures.why
    ] in
    not_drawn c.args.image.now bytes fault c.of_store.result c.in-Ok.ensures.bytes why
    c.of_store.ensures.is

pub returns-in-Err-OutOfMemory-clause-err : goal.returns-in-Err-OutOfMemory-clause-err
returns-in-Err-OutOfMemory-clause-err c =
    let what : c.in-Err-OutOfMemory.field-0 ≡ OutOfMemory =
    rw c.in-Err-OutOfMemory.is at c.in-Err-OutOfMemory.field-0-is in
    let is : c.match-form.put ≡ Err OutOfMemory = c.in-Err-OutOfMemory.is ∙ ap Err what in
    inl (
      refl,
      elim c.match-form.branch [
        | in-Text w ↦ w.put_map-put.ensures.short (sym w.put-is ∙ is)
        | in-Svg w ↦ w.put_svg-put.ensures.short (sym w.put-is ∙ is)
      ],
    )
