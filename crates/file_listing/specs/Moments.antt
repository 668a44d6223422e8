-- Moments, and the texts of their date and time.
use Rattle.std.specs.Prelude.{◌≡◌, ◌/◌, ◌%◌, ◌==◌, ◌++◌, if◌then◌else◌, ℕ, List, pos, ◌+ℤ◌, unsigned_abs, codes, decimal}
use Rattle.jiff_core.specs.Date.{epoch_day}
use Rattle.jiff_core.specs.declared.civil.date.Date.{Date}
use Rattle.file_listing.specs.declared.rows.Epoch.{Epoch}
use Rattle.file_listing.specs.declared.rows.Epoch.TheVariants.{Year1904, Year1970}
use Rattle.file_listing.specs.declared.rows.Moment.{Moment}

-- The epoch from which a date of 32 bits counts: 1970 if its highest bit is 0, else 1904.
abbrev pub epoch_of : ℕ → Epoch
epoch_of seconds = if seconds / 2147483648 == 0 then Year1970 else Year1904

-- The date `days` days after the first day of the epoch: 1904-01-01 is 24,107 days before 1970-01-01.
abbrev pub IsDay : Epoch → ℕ → Date → Type 0
IsDay Year1904 days date = epoch_day date +ℤ pos 24107 ≡ pos days
IsDay Year1970 days date = epoch_day date ≡ pos days

-- the moment of these seconds, with its epoch and its date
pub record IsMoment (seconds : ℕ) (moment : Moment) : Type 0 where
  pub seconds_are : moment.seconds ≡ seconds
  pub epoch_is : moment.epoch ≡ epoch_of seconds
  pub day : IsDay moment.epoch (seconds / 86400) moment.date

-- a date, and a text after it; months and days have two digits
abbrev pub date_text : (year month day : ℕ) → (after : List ℕ) → List ℕ
date_text year month day after =
    decimal year ++ (codes "-"
    ++ (decimal (month / 10) ++ (decimal (month % 10) ++ (codes "-"
    ++ (decimal (day / 10) ++ (decimal (day % 10) ++ after))))))

-- the time `seconds` after midnight, and a text after it: hours, minutes and seconds, of two digits each
abbrev pub time_text : ℕ → (after : List ℕ) → List ℕ
time_text seconds after =
    decimal (seconds / 36000) ++ (decimal (seconds / 3600 % 10) ++ (codes ":"
    ++ (decimal (seconds / 600 % 6) ++ (decimal (seconds / 60 % 10) ++ (codes ":"
    ++ (decimal (seconds / 10 % 6) ++ (decimal (seconds % 10) ++ after)))))))

-- the date and the time in UTC, and a text after them
abbrev pub utc_text : Moment → (after : List ℕ) → List ℕ
utc_text moment after = date_text (unsigned_abs moment.date.year) moment.date.month moment.date.day (codes " " ++ time_text (moment.seconds % 86400) after)

-- the date and the time of a moment between two texts, or only `none` if there is no such moment
abbrev pub moment_text : Moment → (none before after : List ℕ) → List ℕ
moment_text moment none before after = if moment.seconds == 0 then none else before ++ utc_text moment after
