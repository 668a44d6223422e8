use Rattle.std.proofs.Common.{ℕ, sym, subst, arith}
use Rattle.heap_model.specs.Bytes.{u32_at}
use Rattle.heap_model.specs.Memory.{IsWithin}
use Rattle.master_table.proofs.ChainLaws.{LeadsTo, leads_start, leads_on, leads_last}
use Rattle.master_table.proofs.LentLaws.{leads_within, word_within}
use Rattle.master_table.proofs.chain.last_next.Goals as goal

pub get_u32-next-requires : goal.get_u32-next-requires
get_u32-next-requires c =
    subst (λ (n : ℕ). IsWithin c.args.region.now n 4) (sym c.next_word-at.ensures)
    (word_within c.args.region.now c.args.start.place c.args.start.before c.requires.chained c.requires.tiled c.requires.lent c.requires.start)

pub loop-next-init : goal.loop-next-init
loop-next-init c =
    subst (λ (w : ℕ). LeadsTo c.args.region.now.bytes c.next_word-at.result w) (sym c.get_u32-next.ensures)
    (subst (λ (n : ℕ). LeadsTo c.args.region.now.bytes n (u32_at c.args.region.now.bytes n)) (sym c.next_word-at.ensures)
    (leads_start c.args.region.now.bytes c.args.start.place c.args.start.before c.requires.chained c.requires.tiled c.requires.start))

pub get_u32-next-requires-in-loop-next : goal.get_u32-next-requires-in-loop-next
get_u32-next-requires-in-loop-next c = leads_within c.args.region.now c.loop-next.at c.loop-next.next c.requires.tiled c.requires.lent c.loop-next.invariant c.loop-next-test.true

pub loop-next-smaller : goal.loop-next-smaller
loop-next-smaller c = (leads_on c.args.region.now.bytes c.loop-next.at c.loop-next.next c.get_u32-next-in-loop-next.result c.requires.tiled c.loop-next.invariant c.loop-next-test.true c.get_u32-next-in-loop-next.ensures).fewer

pub loop-next-preserved : goal.loop-next-preserved
loop-next-preserved c = (leads_on c.args.region.now.bytes c.loop-next.at c.loop-next.next c.get_u32-next-in-loop-next.result c.requires.tiled c.loop-next.invariant c.loop-next-test.true c.get_u32-next-in-loop-next.ensures).leads

pub returns : goal.returns
returns c = leads_last c.args.region.now.bytes c.loop-next.at c.loop-next.next c.loop-next.invariant (let none = c.loop-next-test.false in omega arith)
