-- `run_line` does what the line says on the session, by the laws of SessionLaws.
use Rattle.live_scripts.proofs.Laws.{◌≡◌, ◌∙◌, ◌++◌, ap, length, sym, with_items_is, option_to_list, setting, tables, bound_in, call_stays, runs_line}
use Rattle.std.specs.Vec.{with_items}
use Rattle.live_scripts.proofs.session.Session.run_line.Goals as goal

-- the tables that the line was given have the session's bindings, and are those that it left
pub returns-in-Ok-add_file-clause-ok : goal.returns-in-Ok-add_file-clause-ok
returns-in-Ok-add_file-clause-ok g c =
    let names = c.make_room.new.self.names in
    let databases = c.make_room.new.self.databases in
    let names_given = c.as_mut_slice-names.result.now in
    let databases_given = c.as_mut_slice-databases.result.now in
    let names_are : names_given ≡ names.items = cc in
    let databases_are : databases_given ≡ databases.items = cc in
    let same : tables names_given databases_given ≡ bound_in c.args.self.now =
    ap (λ l. tables l databases_given) names_are ∙ ap (λ l. tables names.items l) databases_are
    ∙ c.make_room.ensures.bound in
    let names_kept : length c.do_line.new.names ≡ names.len =
    c.do_line.auto.names ∙ ap length names_are ∙ sym names.ok.0 in
    let databases_kept : length c.do_line.new.databases ≡ databases.len =
    c.do_line.auto.databases ∙ ap length databases_are ∙ sym databases.ok.0 in
    let files_are : c.make_room.new.self.files.items ≡ c.args.self.now.files.items =
    rw c.make_room.ensures.files in
    runs_line (setting (g.A.Allowance.is_short c.args.memory.now) c.args.inputs.now)
    g.W.Write.contents c.args.line.now (bound_in c.args.self.now)
    (tables names_given databases_given)
    (tables c.do_line.new.names c.do_line.new.databases) _ c.args.self.now.files.items
    c.args.store.now c.do_line.new.store c.args.out.now c.do_line.new.out c.in-Ok-do_line.file same
    (ap (λ l. tables l (with_items databases c.do_line.new.databases).items)
    (with_items_is names c.do_line.new.names names_kept) ∙ ap (λ l. tables c.do_line.new.names l)
    (with_items_is databases c.do_line.new.databases databases_kept)) c.in-Ok-do_line.ensures
    (c.in-Ok-add_file.ensures.items ∙ ap (λ l. l ++ option_to_list c.in-Ok-do_line.file) files_are)

pub returns-in-Err-clause-stays : goal.returns-in-Err-clause-stays
returns-in-Err-clause-stays g c =
    call_stays c.args.store.now c.do_line.new.store _ _ c.in-Err.ensures.step.does

pub returns-in-Ok-add_file-clause-stays : goal.returns-in-Ok-add_file-clause-stays
returns-in-Ok-add_file-clause-stays g c =
    call_stays c.args.store.now c.do_line.new.store _ _ c.in-Ok-do_line.ensures.step.does

pub returns-in-Err-add_file-clause-stays : goal.returns-in-Err-add_file-clause-stays
returns-in-Err-add_file-clause-stays g c =
    call_stays c.args.store.now c.do_line.new.store _ _ c.in-Ok-do_line.ensures.step.does
