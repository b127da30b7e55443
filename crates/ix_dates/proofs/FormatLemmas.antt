-- A format is read one directive behind the other.
use Rattle.std.proofs.Common.{◌≡◌, ℕ, ◌+◌, ◌≤◌, ◌<◌, List, get_or, drop, length, Some, None, refl, add-one}
use Rattle.std.proofs.Math.Seq.{drop-cons}
use Rattle.std.proofs.Math.ListN.{drop_of_length-le}
use Rattle.ix_conf_values.specs.declared.formats.Directive.{Directive}
use Rattle.ix_dates.specs.declared.fields.Field.{Field}
use Rattle.ix_dates.specs.declared.fields.Fields.{Fields}
use Rattle.ix_dates.specs.Directives.{read_all, read_one}
use Rattle.ix_dates.specs.Fields.{set}

-- a directive that does not read
pub stops : (ds : List Directive) (i : ℕ) (d : Directive) (f : Fields) (text : List ℕ) → i < length ds →
    None ≡ read_one (get_or ds i d) text → read_all (drop i ds) f text ≡ None
unfolding read_all
stops ds i d f text here none = rw (drop-cons ds i d, ← none) refl

-- a directive that reads
pub goes_on : (ds : List Directive) (i : ℕ) (d : Directive) (f : Fields) (g : Field) (text rest : List ℕ) → i < length ds →
    Some (g, rest) ≡ read_one (get_or ds i d) text → read_all (drop i ds) f text ≡ read_all (drop (i + 1) ds) (set f g) rest
unfolding read_all
goes_on ds i d f g text rest here some = rw (drop-cons ds i d, ← some, add-one) refl

-- no directive is left
pub ends : (ds : List Directive) (i : ℕ) (f : Fields) (text : List ℕ) → length ds ≤ i → read_all (drop i ds) f text ≡ Some (f, text)
unfolding read_all
ends ds i f text past = rw (drop_of_length-le ds past) refl
