-- Pictures of images, and why there is none.
use Rattle.palmheap_c.proofs.Words.{◌≡◌, ℕ, List, ap, subst, sym, ◌∙◌, inr, Accepted, IsMapFault, BadImage, StoreFault, of_store, Answer}
use Rattle.heap_map.specs.Text.{map_text}
use Rattle.heap_svg.specs.Drawing.{IsDrawing}
use Rattle.store_check.specs.Faults.{IsFirstStoreFault}
use Rattle.palmheap_c.specs.ImageTexts.{IsPictureIn, IsTextRefusal}
use Rattle.palmheap_c.specs.declared.pictures.PictureForm.TheVariants.{Text, Svg}

pub mapped : (image bytes text : List ℕ) → bytes ≡ image → Accepted bytes → text ≡ map_text bytes
    → IsPictureIn Text image text
mapped image bytes text same accepted is =
    record { accepted = subst Accepted same accepted; drawn = is ∙ ap map_text same }

pub drawn : (image bytes text drawing : List ℕ) → bytes ≡ image → Accepted bytes
    → IsDrawing bytes drawing → text ≡ drawing → IsPictureIn Svg image text
drawn image bytes text drawing same accepted is text_is = record {
  accepted = subst Accepted same accepted;
  drawn =
      subst (λ (one : List ℕ). IsDrawing one text) same (subst (IsDrawing bytes) (sym text_is) is);
}

pub not_drawn : (image bytes : List ℕ) (fault : StoreFault) (found : Answer) → bytes ≡ image
    → IsMapFault bytes (BadImage fault) → found ≡ of_store fault → IsTextRefusal image found
not_drawn image bytes fault found same why is =
    inr (fault, subst (λ (one : List ℕ). IsFirstStoreFault one fault) same why.1, is)
