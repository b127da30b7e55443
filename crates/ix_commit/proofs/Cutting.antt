-- Parts grow, and are cut back.
use Rattle.std.proofs.Common.{◌≡◌, ℕ, zero, suc, ◌+◌, ◌<◌, ◌≤◌, List, [], ◌∷◌, ◌++◌, length, map, take, set, get_or, refl, sym, ap, ◌∙◌}
use Rattle.std.proofs.Common.{arith, subst, append-nil, append_assoc, length-append}
use Rattle.std.proofs.lemmas.List.{take_at, length-take-le}
use native.Mathlib.Numerals.{unary_clauses}
use Rattle.ix_base.specs.Told.{IsFrontOf}
use Rattle.ix_commit.specs.Cuts.{len_in, cut_part, cut_first, HasMore, Grew}
use Rattle.ix_commit.specs.Parts.{more_staged}
use Rattle.ix_commit.specs.Undo.{HasSameLogs, GrewTo, IsMarkOf}
use Rattle.ix_commit.specs.declared.committer.Committer.{Committer}
use Rattle.ix_commit.specs.declared.committer.Savepoint.{Savepoint}
use Rattle.ix_commit.specs.declared.staged_append.StagedAppend.{StagedAppend}
use Rattle.ix_manifest.specs.declared.staged_item.StagedItem.{StagedItem}
use Rattle.ix_commit.specs.declared.file_copy.FileCopy.{FileCopy}

has_same : (p : StagedAppend) → HasMore p p
has_same p = record { number = refl; committed = refl; staged = record { rest = []; whole_is = sym (append-nil p.staged) } }

pub grew_same : (ps : List StagedAppend) → Grew ps ps
grew_same [] = tt
grew_same (p ∷ ps) = (has_same p, grew_same ps)

front_then : (a b c : List ℕ) → IsFrontOf a b → IsFrontOf b c → IsFrontOf a c
front_then a b c p q = record {
  rest = p.rest ++ q.rest;
  whole_is = q.whole_is ∙ ap (λ (x : List ℕ). x ++ q.rest) p.whole_is
      ∙ append_assoc a p.rest q.rest;
}

pub grew_then : (a b c : List StagedAppend) → Grew a b → Grew b c → Grew a c
grew_then [] b c p q = tt
grew_then (x ∷ a) [] c p q = absurd p
grew_then (x ∷ a) (y ∷ b) [] p q = absurd q
grew_then (x ∷ a) (y ∷ b) (z ∷ c) p q = (
  record {
    number = q.0.number ∙ p.0.number;
    committed = q.0.committed ∙ p.0.committed;
    staged = front_then x.staged y.staged z.staged p.0.staged q.0.staged;
  },
  grew_then a b c p.1 q.1,
)

pub grew_set : (ps : List StagedAppend) (k : ℕ) (d : StagedAppend) (bytes : List ℕ) → Grew ps (set ps k (more_staged (get_or ps k d) bytes))
grew_set [] k d bytes = tt
grew_set (p ∷ ps) zero d bytes = (
  record { number = refl; committed = refl; staged = record { rest = bytes; whole_is = refl } },
  grew_same ps,
)
grew_set (p ∷ ps) (suc k) d bytes = (has_same p, grew_set ps k d bytes)

pub grew_push : (ps : List StagedAppend) (p : StagedAppend) → Grew ps (ps ++ p ∷ [])
grew_push [] p = tt
grew_push (x ∷ ps) p = (has_same x, grew_push ps p)

pub length_grew : (old new : List StagedAppend) → Grew old new → length old ≤ length new
length_grew [] new g = omega arith
length_grew (x ∷ old) [] g = absurd g
length_grew (x ∷ old) (y ∷ new) g = let r = length_grew old new g.1 in omega (arith, r)

cut_it : (x y : StagedAppend) → HasMore x y → cut_part (length x.staged) y ≡ x
cut_it x y m =
    let s = ap (take (length x.staged)) m.staged.whole_is ∙ take_at x.staged m.staged.rest (length x.staged) refl in
    λ i. record { number = m.number i; committed = m.committed i; staged = s i }

pub cut_back : (old new : List StagedAppend) → Grew old new → cut_first (length old) (map len_in old) (take (length old) new) ≡ old
cut_back [] new g = refl
cut_back (x ∷ old) [] g = absurd g
cut_back (x ∷ old) (y ∷ new) g = λ i. cut_it x y g.0 i ∷ cut_back old new g.1 i

-- one more is cut
cut_more : (k : ℕ) (lens : List ℕ) (xs : List StagedAppend) (d : StagedAppend) → k < length xs → k < length lens →
    set (cut_first k lens xs) k (cut_part (get_or lens k 0) (get_or (cut_first k lens xs) k d)) ≡ cut_first (suc k) lens xs
cut_more k [] xs d l m = absurd (omega arith)
cut_more k (n ∷ lens) [] d l m = absurd (omega arith)
cut_more zero (n ∷ lens) (x ∷ xs) d l m = refl
cut_more (suc k) (n ∷ lens) (x ∷ xs) d l m = ap (λ ys. cut_part n x ∷ ys) (cut_more k lens xs d (omega arith) (omega arith))

length_cut : (k : ℕ) (lens : List ℕ) (xs : List StagedAppend) → length (cut_first k lens xs) ≡ length xs
length_cut zero lens xs = refl
length_cut (suc k) [] xs = refl
length_cut (suc k) (n ∷ lens) [] = refl
length_cut (suc k) (n ∷ lens) (x ∷ xs) = ap suc (length_cut k lens xs)

pub cut_within : (k : ℕ) (lens : List ℕ) (xs now : List StagedAppend) → now ≡ cut_first k lens (take (length lens) xs) →
    length lens ≤ length xs → k < length lens → k < length now
cut_within k lens xs now is l m =
    let e : length now ≡ length lens = ap (λ (ys : List StagedAppend). length ys) is ∙ length_cut k lens (take (length lens) xs)
    ∙ length-take-le (length lens) xs l in
    omega (arith, e, m)

pub cut_next : (k n : ℕ) (lens : List ℕ) (xs now : List StagedAppend) (old new : StagedAppend) →
    now ≡ cut_first k lens (take (length lens) xs) →
    length lens ≤ length xs → k < length lens → old ≡ get_or now k old → n ≡ get_or lens k 0 → new ≡ cut_part n old →
    set now k new ≡ cut_first (k + 1) lens (take (length lens) xs)
cut_next k n lens xs now old new is l m read at cut = simp unary_clauses (
    ap (set now k) (cut ∙ ap (λ (j : ℕ). cut_part j old) at ∙ ap (cut_part (get_or lens k 0)) read)
    ∙ ap (λ (ys : List StagedAppend). set ys k (cut_part (get_or lens k 0) (get_or ys k old))) is
    ∙ cut_more k lens (take (length lens) xs) old (subst (λ (j : ℕ). k < j) (sym (length-take-le (length lens) xs l)) m) m)

-- ---- committers

pub logs_same : (a : Committer) → HasSameLogs a a
logs_same a = record { root = refl; log = refl; number = refl; first = refl; closed = refl }

pub logs_on : (a b c : Committer) → HasSameLogs a b → HasSameLogs b c → HasSameLogs a c
logs_on a b c p q = record {
  root = q.root ∙ p.root;
  log = q.log ∙ p.log;
  number = q.number ∙ p.number;
  first = q.first ∙ p.first;
  closed = q.closed ∙ p.closed;
}

pub grew_parts : (a b : Committer) → HasSameLogs a b → b.bytes ≡ a.bytes → Grew a.parts b.parts → b.copies ≡ a.copies → b.slots ≡ a.slots →
    GrewTo a b
grew_parts a b logs bytes parts copies slots = record {
  logs = logs;
  bytes = bytes;
  parts = parts;
  more_copies = [];
  copies = copies
      ∙ sym (append-nil a.copies);
  more_slots = [];
  slots = slots ∙ sym (append-nil a.slots);
}

pub grew_as : (a b : Committer) → HasSameLogs a b → b.bytes ≡ a.bytes → b.parts ≡ a.parts → b.copies ≡ a.copies → b.slots ≡ a.slots →
    GrewTo a b
grew_as a b logs bytes parts copies slots = grew_parts a b logs bytes
    (subst (λ (ps : List StagedAppend). Grew a.parts ps) (sym parts) (grew_same a.parts)) copies slots

pub grew_slots : (a b : Committer) (rest : List StagedItem) → HasSameLogs a b → b.bytes ≡ a.bytes → b.parts ≡ a.parts →
    b.copies ≡ a.copies → b.slots ≡ a.slots ++ rest → GrewTo a b
grew_slots a b rest logs bytes parts copies slots = record {
  logs = logs;
  bytes = bytes;
  parts = subst (λ (ps : List StagedAppend). Grew a.parts ps) (sym parts) (grew_same a.parts);
  more_copies = [];
  copies = copies
      ∙ sym (append-nil a.copies);
  more_slots = rest;
  slots = slots;
}

pub grew_copies : (a b : Committer) (rest : List FileCopy) → HasSameLogs a b → b.bytes ≡ a.bytes → b.parts ≡ a.parts → b.copies ≡ a.copies
    ++ rest → b.slots ≡ a.slots → GrewTo a b
grew_copies a b rest logs bytes parts copies slots = record {
  logs = logs;
  bytes = bytes;
  parts = subst (λ (ps : List StagedAppend). Grew a.parts ps) (sym parts) (grew_same a.parts);
  more_copies = rest;
  copies = copies;
  more_slots = [];
  slots = slots ∙ sym (append-nil a.slots);
}

pub grew_self : (a : Committer) → GrewTo a a
grew_self a = grew_as a a (logs_same a) refl refl refl refl

pub grew_on : (a b c : Committer) → GrewTo a b → GrewTo b c → GrewTo a c
grew_on a b c p q = record {
  logs = logs_on a b c p.logs q.logs;
  bytes = q.bytes ∙ p.bytes;
  parts = grew_then a.parts b.parts c.parts p.parts q.parts;
  more_copies = p.more_copies ++ q.more_copies;
  copies = q.copies ∙ ap (λ (l : List FileCopy). l ++ q.more_copies) p.copies ∙ append_assoc a.copies p.more_copies q.more_copies;
  more_slots = p.more_slots ++ q.more_slots;
  slots = q.slots ∙ ap (λ (l : List StagedItem). l ++ q.more_slots) p.slots ∙ append_assoc a.slots p.more_slots q.more_slots;
}

length_map : (ps : List StagedAppend) → length (map len_in ps) ≡ length ps
length_map [] = refl
length_map (p ∷ ps) = ap suc (length_map ps)

module _ (mark : Savepoint) (committer now : Committer) (is : IsMarkOf mark committer) (grew : GrewTo committer now) where
  pub cut_parts_back : cut_first (length mark.lens.items) mark.lens.items (take (length mark.lens.items) now.parts) ≡ committer.parts
  cut_parts_back =
      let n : length mark.lens.items ≡ length committer.parts = ap length is.lens ∙ length_map committer.parts in
      (λ i. cut_first (n i) (is.lens i) (take (n i) now.parts)) ∙ cut_back committer.parts now.parts grew.parts

  pub fits_parts : length mark.lens.items ≤ length now.parts
  fits_parts = let n = ap length is.lens in let l = length_grew committer.parts now.parts grew.parts in let m =
      length_map committer.parts in
      omega (arith, n, l, m)

  pub cut_copies_back : take mark.copies now.copies ≡ committer.copies
  cut_copies_back = (λ i. take (is.copies i) (grew.copies i)) ∙ take_at committer.copies grew.more_copies (length committer.copies) refl

  pub cut_slots_back : take mark.slots now.slots ≡ committer.slots
  cut_slots_back = (λ i. take (is.slots i) (grew.slots i)) ∙ take_at committer.slots grew.more_slots (length committer.slots) refl

  pub fits_slots : mark.slots ≤ length now.slots
  fits_slots = omega (arith, is.slots, ap length grew.slots, length-append committer.slots grew.more_slots)
