-- What becomes of levels when pieces are added.
use Rattle.std.proofs.Common.{◌≡◌, ℕ, ◌+◌, min, max, Bool, ◌&&◌, ◌||◌, List, [], ◌∷◌, Option, Some, None, unwrap_or, refl, ◌∙◌, subst}
use Rattle.std.proofs.Common.{arith}
use Rattle.ix_pattern.specs.Made.{Made}
use Rattle.ix_pattern.specs.Parts.{IsPart, IsOptional, Grew, GrewBy, Adds}
use Rattle.ix_pattern.specs.Syntax.{Syntax, leaf, paren, pieces, weights, whole, whole_weight, joined, repeated, repeated_weight}
use Rattle.ix_pattern.specs.Syntax.{leaf_piece, paren_piece, paren_weight, opened, groups, is_plain_opening, is_high}
use Rattle.ix_pattern.specs.Run.{Level, level}
use Rattle.ix_pattern.specs.Frames.{IsFrame, AreFrames, Holds}
use Rattle.ix_pattern.specs.declared.frames.Frame.{Frame}
use Rattle.ix_pattern.specs.declared.part.Part.{Part}
use Rattle.ix_pattern.specs.declared.tokens.Leaf.{Leaf}
use Rattle.ix_pattern.specs.declared.tokens.Opening.{Opening}
use Rattle.ix_pattern.specs.declared.tokens.Repeat.{Repeat}
use Rattle.ix_pattern.proofs.PartLemmas.{lift-optional, below-optional, Grew-then}

pub lift-frame : {b : ℕ} (old new : Made) (n : ℕ) (frame : Frame) (times : Option Repeat) (s : Syntax) → GrewBy b old new →
    IsFrame old.rows n frame times s → IsFrame new.rows n frame times s
lift-frame old new n frame times s g f = record {
  waits = f.waits;
  first = lift-optional old new frame.sequence (pieces n s).first (weights s).first g f.first;
  others = lift-optional old new frame.others (pieces n s).others (weights s).others g f.others;
  plain = f.plain;
  deep = f.deep;
  high = f.high;
}

pub lift-frames : {b : ℕ} (old new : Made) (n : ℕ) (frames : List Frame) (levels : List Level) → GrewBy b old new →
    AreFrames old.rows n frames levels → AreFrames new.rows n frames levels
lift-frames old new n frames [] g a = a
lift-frames old new n frames (level times s ∷ levels) g a =
    (a.0, a.1, a.2, lift-frame old new n a.1 times s g a.3, lift-frames old new (n + groups s) a.0 levels g a.4)

pub frame-holds : (made : Made) (n : ℕ) (frame : Frame) (times : Option Repeat) (s : Syntax) → IsFrame made.rows n frame times s →
    Holds made.rows frame
frame-holds made n frame times s f = record {
  sequence = below-optional made frame.sequence (pieces n s).first (weights s).first f.first;
  others = below-optional made frame.others (pieces n s).others (weights s).others f.others;
}

pub leaf-frame : (old mid new : Made) (here frame : Frame) (x : Part) (n : ℕ) (times : Option Repeat) (s : Syntax) (l : Leaf)
    (high : Bool) →
    GrewBy 1 old mid → IsFrame old.rows n here times s → frame.waiting ≡ None → frame.sequence ≡ Some x → frame.others ≡ here.others →
    frame.plain ≡ here.plain → frame.depth ≡ here.depth → frame.high ≡ (high || here.high) → high ≡ is_high here.waiting →
    Adds mid new x (joined (repeated (leaf_piece l) here.waiting) (pieces n s).first)
    (repeated_weight 1 here.waiting + unwrap_or (weights s).first 0) →
    IsFrame new.rows n frame None (leaf l times s)
leaf-frame old mid new here frame x n times s l high g f w q o p d h hh a = record {
  waits = w;
  first = rw q (
    joined (repeated (leaf_piece l) times) (pieces n s).first,
    repeated_weight 1 times + unwrap_or (weights s).first 0,
    refl,
    refl,
    subst (λ t. IsPart new.rows x (joined (repeated (leaf_piece l) t) (pieces n s).first)
        (repeated_weight 1 t + unwrap_or (weights s).first 0)) f.waits a.added,
  );
  others = rw o (lift-optional old new here.others (pieces n s).others (weights s).others (Grew-then old mid new g a.grew) f.others);
  plain = p ∙ f.plain;
  deep = d ∙ f.deep;
  high = h ∙ rw (hh, f.waits, f.high) refl;
}

pub paren-frame : (old mid new : Made) (here inside frame : Frame) (x : Part) (n number : ℕ) (times : Option Repeat) (within s : Syntax)
    (opening : Opening) (high plain : Bool) →
    number ≡ n + opened opening → Grew old mid → IsFrame old.rows number inside None within →
    IsFrame old.rows (number + groups within) here times s →
    frame.waiting ≡ None → frame.sequence ≡ Some x → frame.others ≡ here.others →
    frame.plain ≡ (plain && inside.plain && here.plain) → plain ≡ is_plain_opening opening →
    frame.depth ≡ min (max (inside.depth + 1) here.depth) 65 → frame.high ≡ (high || inside.high || here.high) →
    high ≡ is_high here.waiting →
    Adds mid new x (joined (repeated (paren_piece opening number (whole (pieces number within))) here.waiting)
    (pieces (number + groups within) s).first)
    (repeated_weight (paren_weight opening (whole_weight (weights within))) here.waiting + unwrap_or (weights s).first 0) →
    IsFrame new.rows n frame None (paren opening within times s)
paren-frame old mid new here inside frame x n number times within s opening high plain e g fi f w q o p pp d h hh a = record {
  waits = w;
  first = rw q (
    joined (repeated (paren_piece opening (n + opened opening) (whole (pieces (n + opened opening) within))) times)
        (pieces (n + opened opening + groups within) s).first,
    repeated_weight (paren_weight opening (whole_weight (weights within))) times + unwrap_or (weights s).first 0,
    refl,
    refl,
    subst (λ k. IsPart new.rows x (joined (repeated (paren_piece opening k (whole (pieces k within))) times)
        (pieces (k + groups within) s).first)
        (repeated_weight (paren_weight opening (whole_weight (weights within))) times + unwrap_or (weights s).first 0)) e
        (subst (λ t. IsPart new.rows x (joined (repeated (paren_piece opening number (whole (pieces number within))) t)
        (pieces (number + groups within) s).first)
        (repeated_weight (paren_weight opening (whole_weight (weights within))) t + unwrap_or (weights s).first 0)) f.waits a.added),
  );
  others = rw o
      (subst (λ k. IsOptional new.rows here.others (pieces (k + groups within) s).others (weights s).others) e
      (lift-optional old new here.others (pieces (number + groups within) s).others (weights s).others (Grew-then old mid new g a.grew)
      f.others));
  plain = p ∙ rw (pp, fi.plain, f.plain) refl;
  deep = omega (arith, d, fi.deep, f.deep);
  high = h ∙ rw (hh, f.waits, fi.high, f.high) refl;
}
