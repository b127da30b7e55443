-- Laws of the lines of a text.
use Rattle.std.proofs.Common.{◌≡◌, ℕ, ◌+◌, Bool, true, false, eqb, cond, List, [], ◌∷◌, ◌++◌, refl, sym, ap, ◌∙◌, append_assoc}
use Rattle.std.specs.Prelude.{Option, Some, None}
use Rattle.std.specs.Option.{option_map, unwrap_or}
use Rattle.ix_conf.specs.Lines.{cut_at, before_last, stretches, onto_first, ended, physical_lines, Line, is_comment, joined, line_with}
use Rattle.ix_conf.specs.Lines.{logical_lines}

-- a text has at least one stretch
pub stretches_more : (text : List ℕ) → (first : List ℕ) × (others : List (List ℕ)) × (stretches text ≡ first ∷ others)
stretches_more [] = ([], [], refl)
stretches_more (b ∷ bs) = by (eqb b 10) (stretches_more bs)
  where
    by : (t : Bool) → (first : List ℕ) × (others : List (List ℕ)) × (stretches bs ≡ first ∷ others)
        → (first : List ℕ) × (others : List (List ℕ)) × (cond t ([] ∷ stretches bs) (onto_first b (stretches bs)) ≡ first ∷ others)
    by true more = ([], stretches bs, refl)
    by false more = (b ∷ more.0, more.1, ap (onto_first b) more.2)

abbrev stretches_by_cut : List ℕ → Option (List ℕ × List ℕ) → List (List ℕ)
stretches_by_cut text None = text ∷ []
stretches_by_cut text (Some parts) = parts.0 ∷ stretches parts.1

stretches_cut : (text : List ℕ) → stretches text ≡ stretches_by_cut text (cut_at 10 text)
stretches_cut [] = refl
stretches_cut (b ∷ bs) = by (eqb b 10) (cut_at 10 bs) (stretches_cut bs)
  where
    by : (t : Bool) (o : Option (List ℕ × List ℕ)) → stretches bs ≡ stretches_by_cut bs o
        → cond t ([] ∷ stretches bs) (onto_first b (stretches bs))
        ≡ stretches_by_cut (b ∷ bs) (cond t (Some ([], bs)) (option_map (λ (parts : List ℕ × List ℕ). (b ∷ parts.0, parts.1)) o))
    by true o e = refl
    by false None e = ap (onto_first b) e
    by false (Some parts) e = ap (onto_first b) e

-- the first line and the others, by the first line feed
abbrev pub lines_by_cut : List ℕ → Option (List ℕ × List ℕ) → List (List ℕ)
lines_by_cut text None = text ∷ []
lines_by_cut text (Some parts) = unwrap_or (before_last 13 parts.0) parts.0 ∷ physical_lines parts.1

pub lines_cut : (text : List ℕ) → physical_lines text ≡ lines_by_cut text (cut_at 10 text)
lines_cut text = ap ended (stretches_cut text) ∙ by (cut_at 10 text)
  where
    by : (o : Option (List ℕ × List ℕ)) → ended (stretches_by_cut text o) ≡ lines_by_cut text o
    by None = refl
    by (Some parts) = rw ((stretches_more parts.1).2) refl

-- a line that goes on twice
pub joined_joined : (n m : ℕ) (a b : List ℕ) (lines : List Line) → joined n a (joined m b lines) ≡ joined n (a ++ b) lines
joined_joined n m a b [] = refl
joined_joined n m a b (line ∷ lines) =
    ap (λ (t : List ℕ). let l : Line = record { number = n; text = t } in l ∷ lines) (sym (append_assoc a b line.text))

-- a line that nothing stood before
pub joined_fresh : (n : ℕ) (first : List ℕ) (others : Bool → List Line) (o : Option (List ℕ))
    → joined n [] (line_with n first others o) ≡ line_with n first others o
joined_fresh n first others None = refl
joined_fresh n first others (Some front) = joined_joined n n [] front (others true)

-- a line that is no comment
pub begun_line : (n : ℕ) (first : List ℕ) (others : List (List ℕ)) → is_comment first ≡ false
    → logical_lines false n (first ∷ others) ≡ joined n [] (logical_lines true n (first ∷ others))
begun_line n first others is =
    rw is (sym (joined_fresh n first (λ on. logical_lines on (n + 1) others) (before_last 92 first)))

-- a comment
pub comment_line : (n : ℕ) (first : List ℕ) (others : List (List ℕ)) → is_comment first ≡ true
    → logical_lines false n (first ∷ others) ≡ logical_lines false (n + 1) others
comment_line n first others is = rw is refl
