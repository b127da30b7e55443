-- Where the match of an attempt lies.
use Rattle.std.proofs.Common.{◌≡◌, ℕ, ◌+◌, ◌*◌, ◌≤◌, ◌<◌, Bool, true, false, length, take, Option, None, if◌then◌else◌, nat_le, refl, sym}
use Rattle.std.proofs.Common.{◌∙◌, ap, subst, arith}
use Rattle.std.proofs.lemmas.List.{length-take}
use Rattle.std.proofs.lemmas.Bool.{leb-false}
use Rattle.std.specs.Prelude.{slice_get, replicate}
use Rattle.ix_pattern.specs.Ways.{Text, Way, sight, ways}
use Rattle.ix_pattern.specs.Rows.{Shape, tree}
use Rattle.ix_pikevm.specs.Leaf.{at}
use Rattle.ix_match.specs.declared.scan.Look.{Look}
use Rattle.ix_match.specs.declared.scan.Look.TheVariants.{Found as Ended, No, More}
use Rattle.ix_match.specs.Attempt.{reach, attempt}
use Rattle.ix_match.specs.Matches.{AllWithin}
use Rattle.ix_match.specs.Scans.{head_of, BeginsAtOnce, LiesInReach}
use Rattle.ix_match.proofs.ClosedLemmas.{head-lies}

-- one who sees the first n bytes sees no more than they are
seen-length : (n : ℕ) (text : Text) → length (sight n text).bytes ≤ length (take n text.bytes)
seen-length n text = by (nat_le n (length text.bytes)) refl
  where
    by : (b : Bool) → nat_le n (length text.bytes) ≡ b →
        length (if b then record text { bytes = take n text.bytes; unfinished = false } else text).bytes ≤ length (take n text.bytes)
    by true e = omega arith
    by false e = let low : length text.bytes < n = leb-false n (length text.bytes) e in omega (arith, length-take n text.bytes)

-- an attempt's head, from what the search found in what it sees
pub head-here : (p : Shape) (text seen : Text) (out : Option Way) (look : Look) → seen ≡ sight reach text →
    slice_get (ways (tree p.rows) seen (at 0 (replicate p.groups None))) 0 ≡ out → head_of look ≡ out →
    slice_get (attempt p text) 0 ≡ head_of look
head-here p text seen out look same h e =
    ap (λ (t : Text). slice_get (ways (tree p.rows) t (at 0 (replicate p.groups None))) 0) (sym same) ∙ h ∙ sym e

pub look-lies : (p : Shape) (text : Text) (look : Look) → slice_get (attempt p text) 0 ≡ head_of look → BeginsAtOnce look →
    LiesInReach text.bytes p.groups look
look-lies p text (Ended found) h b =
    let l = head-lies (tree p.rows) (sight reach text) p.groups 0 (record { place = found.end; groups = found.groups }) (omega arith) h in
    record {
      begins = omega arith;
      order = omega (arith, b, l.order);
      within = omega (arith, l.within, seen-length reach text);
      groups = l.groups;
      spans = subst (λ (s : ℕ). AllWithin s found.end found.groups) (sym b) l.spans;
    }
look-lies p text No h b = tt
look-lies p text More h b = tt

-- the tests of a table of all are few, beside any number of new bytes
pub few-tests : (pieces weight new : ℕ) → pieces ≤ weight → 256 * pieces ≤ weight * (new + 512)
few-tests pieces weight new light =
    let all : weight * (new + 512) ≡ weight * new + weight * 512 = grind arith in
    omega (arith, light, all)
