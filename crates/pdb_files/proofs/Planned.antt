-- One entry of a file is planned, and then each of them.
use Rattle.pdb_files.proofs.Words.{◌≡◌, ℕ, ◌+◌, ◌-◌, ◌<◌, Bool, true, false, Option, Some, None, List, [], ◌∷◌, ◌++◌, length, get_or, refl, sym, ap, subst, ◌∙◌, arith, length-append, inl, inr, IsSome, cases_lt, get_or_append_left, get_or-append_right, Entry, a_record, a_resource, is_deleted, resources_in, entry_count_in, entry_in, HasNoFault, blocks_in, idle_attributes, size_of_block, WholeEntry, HasIdsFor, IsPlannedAs, id_planned, IsPlannedOf, ArePlannedOf, none_planned, record_block, resource_block}
use Rattle.palm_store.specs.declared.entries.infos.EntryInfo.TheVariants as infos
use Rattle.pdb_format.proofs.WrittenFiles.{still_deleted}

pub record_planned : (file ids : List ℕ) (index attributes id at given idle : ℕ) (size : Option ℕ)
    → HasNoFault file → index < entry_count_in file → HasIdsFor file ids
    → a_record attributes id at ≡ entry_in file index → false ≡ resources_in file
    → size ≡ size_of_block (get_or (blocks_in file) (2 + index) None)
    → idle ≡ idle_attributes attributes → given ≡ get_or ids index 0
    → IsPlannedOf file ids index (infos.Record idle given, size)
record_planned file ids index attributes id at given idle size good inside have is kind sized clear
    gives =
    let count = have.count (sym kind) in
    let fit = have.fit index 0 (omega arith) in
    let some = fit.0 in
    let most = fit.1 in
    record {
      planned = subst (λ (e : Entry ℕ). IsPlannedAs e (infos.Record idle given, size)) is clear;
      size = sized;
      id = ap (λ (n : ℕ). Some n) gives ∙ ap (λ (r : Bool). id_planned r ids index) kind;
      can = (
        sym kind,
        omega arith,
        omega arith,
        λ none. ap is_deleted clear ∙ still_deleted attributes
            ∙ record_block file index attributes id at good inside is
            (none_planned file index (a_record attributes id at) inside is (sym sized ∙ none)),
      );
    }

some_size : (size : Option ℕ) → (size ≡ None → ⊥) → IsSome size
some_size None some = absurd (some refl)
some_size (Some n) some = refl

-- the block of a resource is there
pub resource_has_size : (file : List ℕ) (index kind id at : ℕ) (size : Option ℕ) → HasNoFault file
    → index < entry_count_in file → a_resource kind id at ≡ entry_in file index
    → size ≡ size_of_block (get_or (blocks_in file) (2 + index) None) → IsSome size
resource_has_size file index kind id at size good inside is sized =
    some_size size (λ none. resource_block file index kind id at good inside is
    (none_planned file index (a_resource kind id at) inside is (sym sized ∙ none)))

pub resource_planned : (file ids : List ℕ) (index kind id at : ℕ) (size : Option ℕ)
    → a_resource kind id at ≡ entry_in file index → true ≡ resources_in file
    → size ≡ size_of_block (get_or (blocks_in file) (2 + index) None) → IsSome size
    → IsPlannedOf file ids index (infos.Resource kind id, size)
resource_planned file ids index kind id at size is resources sized some = record {
  planned = subst (λ (e : Entry ℕ). IsPlannedAs e (infos.Resource kind id, size)) is (refl, refl);
  size = sized;
  id = ap (λ (r : Bool). id_planned r ids index) resources;
  can = (sym resources, some);
}

-- ---- one after the other

pub one_more : (file ids : List ℕ) (entries : List WholeEntry) (count : ℕ) (entry : WholeEntry)
    → ArePlannedOf file ids entries count → IsPlannedOf file ids count entry
    → ArePlannedOf file ids (entries ++ entry ∷ []) (count + 1)
one_more file ids entries count entry are is =
    let long = are.long in
    let more = length-append entries (entry ∷ []) in
    record {
      long = omega arith;
      each = λ index d below. elim (cases_lt index count) [
        | inl before ↦ subst (IsPlannedOf file ids index)
            (sym (get_or_append_left entries (entry ∷ []) d index (omega arith)))
            (are.each index d before)
        | inr last ↦
            let here : index ≡ count = omega arith in
            let first : index - length entries ≡ 0 = omega arith in
            let at : get_or (entries ++ entry ∷ []) index d ≡ entry =
            get_or-append_right entries (entry ∷ []) (length entries) index d refl (omega arith)
            ∙ ap (λ (k : ℕ). get_or (entry ∷ []) k d) first in
            subst (λ (k : ℕ). IsPlannedOf file ids k (get_or (entries ++ entry ∷ []) index d))
            (sym here) (subst (IsPlannedOf file ids count) (sym at) is)
      ];
    }
