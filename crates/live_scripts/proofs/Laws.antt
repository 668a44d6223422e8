-- The lemmas of this crate that proofs of its functions cite, passed on from one place. Declares nothing.
pub use Rattle.live_scripts.proofs.SessionLaws.{ends_at, flush_stops_at, given_rest, kept_first, last_flush_stops, last_stops_at, last_stops_on, line_ends_on, nothing_read, on_handed, on_written, place_within, read_fails_at, reads_on, room_of, runs_further, runs_line, runs_nothing, runs_taken, starts, stops_at, stops_further, stops_read, stops_read_at_end, text_flushed, then_flushed, unended_on}
pub use Rattle.live_scripts.proofs.Words.{IsUnended, Keeps, Keeps-trans, [], ap, append_assoc, arith, bound_in, call_stays, length, length-append, option_to_list, prepend_known, refl, rules, setting, stays_itself, stays_then, subst, sym, tables, take, true, with_items_is, ◌++◌, ◌+◌, ◌<◌, ◌∙◌, ◌≡◌, ◌≤◌}
