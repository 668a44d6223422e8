-- The words that most proofs of this crate cite, passed on from one place. Declares nothing.
pub use Rattle.live_scripts.specs.Sessions.{EndsOn, HasRun, IsReadFault, LineStops, ReadsLine, RunsLine, RunsOn, StopsAt, StopsOn, bound_in, live_state}
pub use Rattle.palm_script.proofs.LoanLaws.{call_stays, stays_itself, stays_then}
pub use Rattle.palm_script.specs.Loans.{LoanStays}
pub use Rattle.palm_text.specs.Output.{output}
pub use Rattle.script_calls.specs.Lines.{Bindings, DoesLine, LineStep, Setting, bound_after, exported, labelled, reply_line, setting, table, tables, unbound}
pub use Rattle.script_lines.specs.Cuts.{IsUnended}
pub use Rattle.std.proofs.Common.{List, None, Option, Some, [], ap, append-nil, append_assoc, arith, cond, drop, false, get_or, inl, inr, length, length-append, length-drop, refl, replicate, rules, subst, suc, sym, take, true, vec_len, zero, ℕ, ◌++◌, ◌+◌, ◌-◌, ◌<◌, ◌∙◌, ◌∷◌, ◌≡◌, ◌≤◌}
pub use Rattle.std.proofs.KnownBytes.{Appends-kept, Appends-nil, Appends-trans, Keeps-trans}
pub use Rattle.std.proofs.lemmas.List.{drop-drop, length-replicate, take-append-drop, take-take, take_all, take_at, with_items_is}
pub use Rattle.std.specs.Io.{StartsWith}
pub use Rattle.std.specs.Io.KnownBytes.{IsAtEnd, Keeps, prepend_known}
pub use Rattle.std.specs.Option.{option_to_list}
