-- A walk along the words `next` of a chain.
use Rattle.std.proofs.Common.{◌≡◌, ◌≢◌, ℕ, zero, suc, ◌<◌, Bool, true, List, [], ◌∷◌, ◌++◌, length, refl, sym, ap, subst, ◌∙◌, arith}
use Rattle.std.specs.Prelude.{if◌then◌else◌}
use Rattle.heap_model.specs.Bytes.{u32_at}
use Rattle.heap_model.specs.Chunk.{Chunk}
use Rattle.heap_model.specs.Slots.{Table, is_chained, table_at, table_end, tables_within, first_next, further_tables}
use Rattle.heap_model.specs.Heap.{IsChain, Tiles}
use Rattle.heap_model.specs.MoreTables.{last_in, last_next}
use Rattle.laws_heap.proofs.Tables.{ChainStep, chain_step}
use Rattle.master_table.specs.Table.{IsTiled, StartsAt, StartsFurther, next_word, tables_from}
use Rattle.master_table.proofs.RowLaws.{further_start, start_stands}

-- a word `next` of the chain is at an offset: the last one is among those that it leads to
pub record LeadsTo (image : List ℕ) (at next : ℕ) : Type 0 where
  pub last : last_in at (tables_from image next) ≡ last_next image
  pub chain : (chunks : List Chunk) → Tiles image chunks → IsChain image chunks next (tables_from image next)

pub leads_first : (image : List ℕ) (at next : ℕ) → at ≡ table_end image → next ≡ first_next image → LeadsTo image at next
unfolding further_tables
leads_first image at next there is = record {
  last = ap (λ (n : ℕ). last_in n (tables_from image next)) there ∙ ap (λ (w : ℕ). last_in (table_end image) (tables_from image w)) is;
  chain = λ chunks t. subst (λ (w : ℕ). IsChain image chunks w (tables_from image w)) (sym is) t.chain;
}

-- and so is the word of a table that is known
last_append : (word : ℕ) (front : List Table) (table : Table) (rest : List Table) → last_in word (front ++ table ∷ rest) ≡ last_in table.place rest
last_append word [] table rest = refl
last_append word (t ∷ front) table rest = last_append t.place front table rest

leads_table : (image : List ℕ) (place before : ℕ) → IsTiled image → StartsFurther image place before → LeadsTo image place (u32_at image place)
leads_table image place before t s =
    let st = start_stands image place before t s in
    record {
      last = ap (last_in place) st.rest_is ∙ ap (λ (n : ℕ). last_in n s.rest) (sym s.there) ∙ sym (last_append (table_end image) s.front s.table s.rest) ∙ ap (last_in (table_end image)) (sym s.parts);
      chain = λ cs u. (st.next.step cs u).chain;
    }

pub leads_start : (image : List ℕ) (place before : ℕ) → is_chained image ≡ true → IsTiled image → StartsAt image place before → LeadsTo image (next_word image place) (u32_at image (next_word image place))
leads_start image zero before chained t s = leads_first image (table_end image) (u32_at image (table_end image)) refl (sym (ap (λ (b : Bool). if b then u32_at image (table_end image) else 0) chained))
leads_start image (suc low) before chained t s = leads_table image (suc low) before t (further_start image (suc low) before s (λ e. absurd (omega (arith, e))))

pub next_step : (image : List ℕ) (at next : ℕ) → LeadsTo image at next → next ≢ 0 → (cs : List Chunk) → Tiles image cs → ChainStep image cs next
next_step image at next l used cs t = chain_step image cs next (let fits = t.head.a_chunk_fits in omega arith) (omega arith) (l.chain cs t)

-- the table that it leads to has the next of these words
pub record LeadsOn (image : List ℕ) (next word : ℕ) (more : ℕ) : Type 0 where
  pub leads : LeadsTo image next word
  pub fewer : length (tables_from image word) < more

pub leads_on : (image : List ℕ) (at next word : ℕ) → IsTiled image → LeadsTo image at next → next ≢ 0 → word ≡ u32_at image next → LeadsOn image next word (length (tables_from image next))
leads_on image at next word t l used is =
    let step = next_step image at next l used t.0 t.1 in
    let same : tables_from image next ≡ table_at image next ∷ tables_from image word = step.is ∙ ap (λ (w : ℕ). table_at image next ∷ tables_from image w) (sym is) in
    let long = ap length same in
    record {
      leads = record {
        last = sym (ap (last_in at) same) ∙ l.last;
        chain = λ cs u. subst (λ (w : ℕ). IsChain image cs w (tables_from image w)) (sym is) (next_step image at next l used cs u).chain;
      };
      fewer = omega (arith, long);
    }

-- if it leads to none it is the last
pub leads_last : (image : List ℕ) (at next : ℕ) → LeadsTo image at next → next ≡ 0 → at ≡ last_next image
leads_last image at next l none = sym (ap (last_in at) (ap (tables_from image) none ∙ none_within (length image))) ∙ l.last where
  none_within : (n : ℕ) → tables_within n image 0 ≡ []
  none_within zero = refl
  none_within (suc n) = refl
