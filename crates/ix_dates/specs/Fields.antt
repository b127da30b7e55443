-- What a text says of a time.
use Rattle.std.specs.Prelude.{Some, None}
use Rattle.ix_dates.specs.declared.fields.Field.{Field}
use Rattle.ix_dates.specs.declared.fields.Field.TheVariants as field
use Rattle.ix_dates.specs.declared.fields.Fields.{Fields}

abbrev pub no_fields : Fields
no_fields = record {
  year = None;
  month = None;
  day = None;
  day_of_year = None;
  hour = None;
  afternoon = None;
  minute = None;
  second = None;
  micros = None;
  epoch = None;
  offset = None;
}

-- the fields with one more; of a kind that is read twice the last counts
abbrev pub set : Fields → Field → Fields
set f field.Nothing = f
set f (field.Year n) = record f { year = Some n }
set f (field.Month n) = record f { month = Some n }
set f (field.Day n) = record f { day = Some n }
set f (field.DayOfYear n) = record f { day_of_year = Some n }
set f (field.Hour h) = record f { hour = Some h }
set f (field.Afternoon b) = record f { afternoon = Some b }
set f (field.Minute n) = record f { minute = Some n }
set f (field.Second n) = record f { second = Some n }
set f (field.Micros n) = record f { micros = Some n }
set f (field.Epoch n) = record f { epoch = Some n }
set f (field.Offset z) = record f { offset = Some z }
