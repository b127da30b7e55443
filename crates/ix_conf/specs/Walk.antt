-- How a name is held against a pattern: from the pattern's last token to its first, with what is
-- asked of the rest of the name at each place.
use Rattle.std.specs.Prelude.{◌≡◌, ◌<◌, ◌≤◌, ◌+◌, ◌==◌, ◌&&◌, ◌||◌, not, ℕ, Bool, true, false, List, [], ◌∷◌, length, drop, get_or}
use Rattle.ix_conf.specs.declared.tokens.Token.{Token}
use Rattle.ix_conf.specs.declared.tokens.Token.TheVariants.{Byte, Star, Dots, Bar, Open, Close}
use Rattle.ix_conf.specs.declared.names.Level.{Level}
use Rattle.ix_conf.specs.Names.{same_byte}

-- what is asked of the rest of a name
abbrev pub Ask : Type 0
Ask = List ℕ → Bool

abbrev pub is_end : Ask
is_end [] = true
is_end (c ∷ rest) = false

abbrev pub never : Ask
never rest = false

abbrev pub any_of : Ask → Ask → Ask
any_of f g rest = f rest || g rest

-- a byte, and then the rest
abbrev pub byte_then : Bool → ℕ → Ask → Ask
byte_then fold b ask [] = false
byte_then fold b ask (c ∷ rest) = same_byte fold b c && ask rest

-- any bytes that may be passed, and then the rest; a slash may be passed or not
abbrev pub may_pass : Bool → ℕ → Bool
may_pass slash c = slash || not (c == 47)

abbrev pub bytes_then : Bool → Ask → Ask
bytes_then slash ask [] = ask []
bytes_then slash ask (c ∷ rest) = ask (c ∷ rest) || (may_pass slash c && bytes_then slash ask rest)

-- in one pair of parentheses: what is asked where the present alternative begins, and where one
-- behind it does
pub record Lead : Type 0 where
  pub leads : Ask
  pub others : Ask

-- a token changes what is asked in the parentheses that it stands in, the innermost first
abbrev pub lead_with : (Ask → Ask) → List Lead → List Lead
lead_with change [] = []
lead_with change (l ∷ ls) = record { leads = change l.leads; others = l.others } ∷ ls

abbrev pub close_step : List Lead → List Lead
close_step [] = []
close_step (l ∷ ls) = record { leads = l.leads; others = never } ∷ l ∷ ls

abbrev pub bar_step : List Lead → List Lead
bar_step [] = []
bar_step (l ∷ []) = l ∷ []
bar_step (l ∷ m ∷ ls) = record { leads = m.leads; others = any_of l.others l.leads } ∷ m ∷ ls

abbrev pub open_step : List Lead → List Lead
open_step [] = []
open_step (l ∷ []) = l ∷ []
open_step (l ∷ m ∷ ls) = record { leads = any_of l.others l.leads; others = m.others } ∷ ls

abbrev pub step : Bool → Token → List Lead → List Lead
step fold (Byte b) leads = lead_with (byte_then fold b) leads
step fold Star leads = lead_with (bytes_then false) leads
step fold Dots leads = lead_with (bytes_then true) leads
step fold Bar leads = bar_step leads
step fold Open leads = open_step leads
step fold Close leads = close_step leads

abbrev pub walk : Bool → List Token → List Lead → List Lead
walk fold [] leads = leads
walk fold (t ∷ tokens) leads = step fold t (walk fold tokens leads)

-- a whole pattern stands as if in parentheses, and the end of the name is asked behind them
abbrev pub start : List Lead
start = record { leads = is_end; others = never } ∷ record { leads = is_end; others = never } ∷ []

abbrev pub answer : List Lead → Ask
answer [] name = false
answer (l ∷ ls) name = l.others name || l.leads name

-- the answers at each place of a name
pub record Marks (name : List ℕ) (ask : Ask) (marks : List Bool) : Type 0 where
  pub long : length marks ≡ length name + 1
  pub each : (i : ℕ) → i ≤ length name → get_or marks i false ≡ ask (drop i name)

pub record MarksLead (name : List ℕ) (lead : Lead) (level : Level) : Type 0 where
  pub leads : Marks name lead.leads level.leads.items
  pub others : Marks name lead.others level.others.items

abbrev pub MarksAll : List ℕ → List Lead → List Level → Type 0
MarksAll name [] [] = Unit {0}
MarksAll name [] (l ∷ ls) = ⊥
MarksAll name (x ∷ xs) [] = ⊥
MarksAll name (x ∷ xs) (l ∷ ls) = MarksLead name x l × MarksAll name xs ls

-- each list has so many marks
abbrev pub EachLong : ℕ → List Level → Type 0
EachLong n [] = Unit {0}
EachLong n (l ∷ ls) = (length l.leads.items ≡ n) × (length l.others.items ≡ n) × EachLong n ls

-- in each place what was in either list
pub record IsEither (a b new : List Bool) : Type 0 where
  pub long : length new ≡ length a
  pub each : (i : ℕ) → i < length b → get_or new i false ≡ (get_or a i false || get_or b i false)

-- the levels, the innermost first, after a `|` and a `(` before them
abbrev pub IsBarred : Level → List Level → Level → Type 0
IsBarred top [] new = new ≡ top
IsBarred top (outer ∷ below) new = (new.leads.items ≡ outer.leads.items) × IsEither top.others.items top.leads.items new.others.items

abbrev pub IsOpened : Level → List Level → Level → List Level → Type 0
IsOpened top [] new below = (new ≡ top) × (below ≡ [])
IsOpened top (outer ∷ outers) new below = (new.others ≡ outer.others) × IsEither top.others.items top.leads.items new.leads.items
    × (below ≡ outers)
