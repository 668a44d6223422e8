-- `run_read` runs a script while it reads it, and stops at the first fault, by the laws of
-- SessionLaws.
use Rattle.live_scripts.proofs.Laws.{◌≡◌, ◌≤◌, ◌+◌, length, take, true, refl, sym, ap, subst, ◌∙◌, arith, rules, Keeps, prepend_known, Keeps-trans, with_items_is, IsUnended, stays_itself, stays_then, setting, ends_at, flush_stops_at, given_rest, kept_first, last_flush_stops, last_stops_at, nothing_read, on_handed, on_written, place_within, read_fails_at, reads_on, room_of, starts, stops_at, stops_read, stops_read_at_end, text_flushed, then_flushed, unended_on}
use Rattle.live_scripts.proofs.live.run_read.Goals as goal

-- no memory for the buffer
pub returns-in_default-clause-fault : goal.returns-in_default-clause-fault
returns-in_default-clause-fault g c = nothing_read
    (setting (g.A.Allowance.is_short c.args.memory.now) c.args.inputs.files.now) g.W.Write.contents
    (g.R.Read.remaining c.args.reader.now) c.args.store.now c.args.out.now (search rules)

pub returns-in_default-clause-stays : goal.returns-in_default-clause-stays
returns-in_default-clause-stays g c = stays_itself c.args.store.now

pub loop-is_end-init : goal.loop-is_end-init
loop-is_end-init g c =
    let known = g.R.Read.remaining c.args.reader.now in
    let fresh = c.new-session.ensures in
    let none : length c.args.text.now.items ≡ 0 = ap length c.requires.none in
    record {
      has = starts (setting (g.A.Allowance.is_short c.args.memory.now) c.args.inputs.files.now)
          g.W.Write.contents c.args.store.now c.args.out.now c.new-session.result fresh.count
          fresh.labels fresh.bound fresh.files;
      within = omega arith;
      limit = omega (arith, none, c.args.text.now.ok.0);
      count = omega (arith, fresh.count);
      kept =
          subst (λ t. Keeps known (prepend_known t known)) (sym c.requires.none) (kept_first known);
      room = room_of 65536 _ c.in-Ok.ensures.items (omega arith);
      stays = stays_itself c.args.store.now;
      ended = λ e. absurd cc;
    }

pub loop-is_end-preserved : goal.loop-is_end-preserved
loop-is_end-preserved g c =
    let so_far = c.loop-is_end.invariant in
    let read = c.in-Ok-read_ahead.ensures in
    let ran = c.in_ok-at.ensures in
    let at = c.loop-is_end.at in
    let n = c.in_ok-at.field-0 in
    let text = c.loop-is_end.text.items in
    let more = c.read_ahead.new.text.items in
    let within : at ≤ length text = omega (arith, so_far.within, c.loop-is_end.text.ok.0) in
    let turn = c.loop-is_end.turn in
    let given_is : c.as_mut_slice.result.now ≡ turn.items = cc in
    let turn_kept : length c.read_ahead.new.turn ≡ turn.len =
    c.read_ahead.auto.turn ∙ ap length given_is ∙ sym turn.ok.0 in
    let place : at + n ≤ length more = place_within at n text more _ within read.more ran.within
    (given_rest at c.deref.result.now more c.deref.ensures.value) in
    record {
      has = then_flushed (setting (g.A.Allowance.is_short c.args.memory.now)
          c.args.inputs.files.now) g.W.Write.contents
          (take (at + n) more) c.args.store.now c.args.out.now c.run_ended_lines.new.self
          c.run_ended_lines.new.store c.run_ended_lines.new.out c.flush.new.out
          (reads_on (setting (g.A.Allowance.is_short c.args.memory.now) c.args.inputs.files.now)
          g.W.Write.contents at n text more _ c.args.store.now c.args.out.now c.loop-is_end.session
          c.run_ended_lines.new.self c.loop-is_end.store c.run_ended_lines.new.store
          c.loop-is_end.out c.run_ended_lines.new.out within read.more so_far.has ran.ok
          (given_rest at c.deref.result.now more c.deref.ensures.value)) c.in_ok-flush.ensures.ok;
      within = omega (arith, place, c.read_ahead.new.text.ok.0);
      limit = read.limit;
      count = omega (arith, ran.count, so_far.count);
      kept = Keeps-trans _ _ _ so_far.kept read.kept;
      room = rw (with_items_is turn c.read_ahead.new.turn turn_kept)
          (omega (arith, turn_kept, turn.ok.0, so_far.room));
      stays = stays_then c.args.store.now c.loop-is_end.store c.run_ended_lines.new.store
          so_far.stays c.run_ended_lines.ensures.stays;
      ended = λ e. (
        c.read_ahead.ensures.end (cc),
        unended_on at n more _ ran.last
            (given_rest at c.deref.result.now more c.deref.ensures.value),
      );
    }

-- the script can't be read further
pub returns-in-Err-clause-fault : goal.returns-in-Err-clause-fault
returns-in-Err-clause-fault g c =
    let so_far = c.loop-is_end.invariant in
    stops_read (setting (g.A.Allowance.is_short c.args.memory.now) c.args.inputs.files.now)
    g.W.Write.contents (g.R.Read.remaining c.args.reader.now)
    (g.R.Read.remaining c.loop-is_end.reader) c.loop-is_end.text.items c.read_fault.result
    c.args.store.now c.args.out.now c.loop-is_end.store c.loop-is_end.out so_far.kept (λ more.
    read_fails_at (setting (g.A.Allowance.is_short c.args.memory.now) c.args.inputs.files.now)
    g.W.Write.contents c.loop-is_end.at c.loop-is_end.text.items c.in-Err.fault c.read_fault.result
    c.args.store.now c.args.out.now c.loop-is_end.session c.loop-is_end.store c.loop-is_end.out
    c.read_fault.ensures (λ is. c.read_ahead.ensures.no_memory (cc)) so_far.has more)

-- a line that can't be run
pub returns-in_err-at-clause-fault : goal.returns-in_err-at-clause-fault
returns-in_err-at-clause-fault g c =
    let so_far = c.loop-is_end.invariant in
    let read = c.in-Ok-read_ahead.ensures in
    let within : c.loop-is_end.at ≤ length c.loop-is_end.text.items =
    omega (arith, so_far.within, c.loop-is_end.text.ok.0) in
    on_handed _ c.from_residual.result c.from_residual.ensures.1 (stops_read
    (setting (g.A.Allowance.is_short c.args.memory.now) c.args.inputs.files.now) g.W.Write.contents
    (g.R.Read.remaining c.args.reader.now) (g.R.Read.remaining c.read_ahead.new.reader)
    c.read_ahead.new.text.items _ c.args.store.now c.args.out.now c.run_ended_lines.new.store
    c.run_ended_lines.new.out (Keeps-trans _ _ _ so_far.kept read.kept)
    (λ more. stops_at (setting (g.A.Allowance.is_short c.args.memory.now) c.args.inputs.files.now)
    g.W.Write.contents c.loop-is_end.at c.loop-is_end.text.items c.read_ahead.new.text.items _ _
    c.args.store.now c.args.out.now c.loop-is_end.session c.loop-is_end.store
    c.run_ended_lines.new.store c.loop-is_end.out c.run_ended_lines.new.out within read.more
    so_far.has c.in_err-at.ensures.fault (given_rest c.loop-is_end.at c.deref.result.now
    c.read_ahead.new.text.items c.deref.ensures.value) more))

pub returns-in_err-at-clause-stays : goal.returns-in_err-at-clause-stays
returns-in_err-at-clause-stays g c = stays_then c.args.store.now c.loop-is_end.store
    c.run_ended_lines.new.store c.loop-is_end.invariant.stays c.run_ended_lines.ensures.stays

-- a flush that fails before the end
pub returns-in_err-flush-clause-fault : goal.returns-in_err-flush-clause-fault
returns-in_err-flush-clause-fault g c =
    let so_far = c.loop-is_end.invariant in
    let read = c.in-Ok-read_ahead.ensures in
    let within : c.loop-is_end.at ≤ length c.loop-is_end.text.items =
    omega (arith, so_far.within, c.loop-is_end.text.ok.0) in
    let failed = c.in_err-flush.ensures.fault in
    on_written _ c.from_residual-in_err-flush.result c.from_residual-in_err-flush.ensures.1 failed.0
    (stops_read (setting (g.A.Allowance.is_short c.args.memory.now) c.args.inputs.files.now)
    g.W.Write.contents (g.R.Read.remaining c.args.reader.now)
    (g.R.Read.remaining c.read_ahead.new.reader) c.read_ahead.new.text.items _ c.args.store.now
    c.args.out.now c.run_ended_lines.new.store c.flush.new.out (Keeps-trans _ _ _ so_far.kept
    read.kept) (flush_stops_at (setting (g.A.Allowance.is_short c.args.memory.now)
    c.args.inputs.files.now) g.W.Write.contents (c.loop-is_end.at + c.in_ok-at.field-0)
    c.read_ahead.new.text.items c.args.store.now c.args.out.now c.run_ended_lines.new.self
    c.run_ended_lines.new.store c.run_ended_lines.new.out c.flush.new.out (reads_on
    (setting (g.A.Allowance.is_short c.args.memory.now) c.args.inputs.files.now) g.W.Write.contents
    c.loop-is_end.at c.in_ok-at.field-0 c.loop-is_end.text.items c.read_ahead.new.text.items _
    c.args.store.now c.args.out.now c.loop-is_end.session c.run_ended_lines.new.self
    c.loop-is_end.store c.run_ended_lines.new.store c.loop-is_end.out c.run_ended_lines.new.out
    within read.more so_far.has c.in_ok-at.ensures.ok (given_rest c.loop-is_end.at
    c.deref.result.now c.read_ahead.new.text.items c.deref.ensures.value)) failed.1))

pub returns-in_err-flush-clause-stays : goal.returns-in_err-flush-clause-stays
returns-in_err-flush-clause-stays g c = stays_then c.args.store.now c.loop-is_end.store
    c.run_ended_lines.new.store c.loop-is_end.invariant.stays c.run_ended_lines.ensures.stays

-- the last line, which no line feed ends
pub run_last_line-requires-clause-last : goal.run_last_line-requires-clause-last
run_last_line-requires-clause-last g c =
    let end : c.loop-is_end.is_end ≡ true = search rules in
    subst IsUnended (sym (given_rest c.loop-is_end.at c.deref-2.result.now c.loop-is_end.text.items
    c.deref-2.ensures.value)) (c.loop-is_end.invariant.ended end).1

pub returns-in_err-run_last_line-clause-fault : goal.returns-in_err-run_last_line-clause-fault
returns-in_err-run_last_line-clause-fault g c =
    let so_far = c.loop-is_end.invariant in
    let end : c.loop-is_end.is_end ≡ true = search rules in
    on_handed _ c.from_residual-in_err-run_last_line.result
    c.from_residual-in_err-run_last_line.ensures.1 (stops_read_at_end
    (setting (g.A.Allowance.is_short c.args.memory.now) c.args.inputs.files.now) g.W.Write.contents
    (g.R.Read.remaining c.args.reader.now) (g.R.Read.remaining c.loop-is_end.reader)
    c.loop-is_end.text.items _ c.args.store.now c.args.out.now c.run_last_line.new.store
    c.run_last_line.new.out so_far.kept (so_far.ended end).0
    (last_stops_at (setting (g.A.Allowance.is_short c.args.memory.now) c.args.inputs.files.now)
    g.W.Write.contents c.loop-is_end.at c.loop-is_end.text.items _ _ c.args.store.now c.args.out.now
    c.loop-is_end.session c.loop-is_end.store c.run_last_line.new.store c.loop-is_end.out
    c.run_last_line.new.out so_far.has c.in_err-run_last_line.ensures.fault (given_rest
    c.loop-is_end.at c.deref-2.result.now c.loop-is_end.text.items c.deref-2.ensures.value)))

pub returns-in_err-run_last_line-clause-stays : goal.returns-in_err-run_last_line-clause-stays
returns-in_err-run_last_line-clause-stays g c = stays_then c.args.store.now c.loop-is_end.store
    c.run_last_line.new.store c.loop-is_end.invariant.stays c.run_last_line.ensures.stays

-- a flush that fails at the end
pub returns-in_err-flush-2-clause-fault : goal.returns-in_err-flush-2-clause-fault
returns-in_err-flush-2-clause-fault g c =
    let so_far = c.loop-is_end.invariant in
    let end : c.loop-is_end.is_end ≡ true = search rules in
    let failed = c.in_err-flush-2.ensures.fault in
    on_written _ c.from_residual-in_err-flush-2.result c.from_residual-in_err-flush-2.ensures.1
    failed.0 (stops_read_at_end (setting (g.A.Allowance.is_short c.args.memory.now)
    c.args.inputs.files.now) g.W.Write.contents (g.R.Read.remaining c.args.reader.now)
    (g.R.Read.remaining c.loop-is_end.reader) c.loop-is_end.text.items _ c.args.store.now
    c.args.out.now c.run_last_line.new.store c.flush-2.new.out so_far.kept (so_far.ended end).0
    (last_flush_stops (setting (g.A.Allowance.is_short c.args.memory.now) c.args.inputs.files.now)
    g.W.Write.contents c.loop-is_end.text.items c.args.store.now c.args.out.now
    c.run_last_line.new.store c.run_last_line.new.out c.flush-2.new.out
    c.run_last_line.new.self.files.items
    (ends_at (setting (g.A.Allowance.is_short c.args.memory.now) c.args.inputs.files.now)
    g.W.Write.contents c.loop-is_end.at c.loop-is_end.text.items _ c.args.store.now c.args.out.now
    c.loop-is_end.session c.run_last_line.new.self c.loop-is_end.store c.run_last_line.new.store
    c.loop-is_end.out c.run_last_line.new.out so_far.has c.in_ok-run_last_line.ensures.ok
    (given_rest c.loop-is_end.at c.deref-2.result.now c.loop-is_end.text.items
    c.deref-2.ensures.value)) failed.1))

pub returns-in_err-flush-2-clause-stays : goal.returns-in_err-flush-2-clause-stays
returns-in_err-flush-2-clause-stays g c = stays_then c.args.store.now c.loop-is_end.store
    c.run_last_line.new.store c.loop-is_end.invariant.stays c.run_last_line.ensures.stays

pub returns-clause-stays : goal.returns-clause-stays
returns-clause-stays g c = stays_then c.args.store.now c.loop-is_end.store c.run_last_line.new.store
    c.loop-is_end.invariant.stays c.run_last_line.ensures.stays

pub returns-clause-ok : goal.returns-clause-ok
returns-clause-ok g c = rw c.into_files.ensures (text_flushed
    (setting (g.A.Allowance.is_short c.args.memory.now) c.args.inputs.files.now) g.W.Write.contents
    c.loop-is_end.text.items c.args.store.now c.args.out.now c.run_last_line.new.store
    c.run_last_line.new.out c.flush-2.new.out c.run_last_line.new.self.files.items
    (ends_at (setting (g.A.Allowance.is_short c.args.memory.now) c.args.inputs.files.now)
    g.W.Write.contents c.loop-is_end.at c.loop-is_end.text.items _ c.args.store.now c.args.out.now
    c.loop-is_end.session c.run_last_line.new.self c.loop-is_end.store c.run_last_line.new.store
    c.loop-is_end.out c.run_last_line.new.out c.loop-is_end.invariant.has
    c.in_ok-run_last_line.ensures.ok (given_rest c.loop-is_end.at c.deref-2.result.now
    c.loop-is_end.text.items c.deref-2.ensures.value)) c.in_ok-flush-2.ensures.ok)
