-- Sequences and alternatives of many parts, written out from the last one.
use Rattle.std.proofs.Common.{◌≡◌, ℕ, ◌<◌, ◌≤◌, Bool, true, false, List, [], ◌∷◌, ◌++◌, length, refl, sym, ◌∙◌, ap, subst, arith}
use Rattle.ix_pattern.specs.Piece.{Piece, seq, either, IsSound, IsPlain}
use Rattle.ix_pattern.specs.Rows.{Rows, piece_at}
use Rattle.ix_pikevm.specs.declared.code.Instr.{Instr}
use Rattle.ix_pikevm.specs.declared.code.Instr.TheVariants.{Split}
use Rattle.ix_pikevm.specs.Looks.{HasNoLook}
use Rattle.ix_pikevm.specs.Aims.{pre, Writes}
use Rattle.ix_pikevm.specs.Chains.{join, chained, AllFit, IsChain}
use Rattle.ix_pikevm.proofs.PlainLemmas.{no-look-push}
use Rattle.ix_pikevm.proofs.WriteLemmas.{writes-seq, writes-either}

pub chained-snoc : (sequence : Bool) (rows : Rows) (parts : List ℕ) (part : ℕ) (last : Piece) →
    chained sequence rows (parts ++ part ∷ []) last ≡ chained sequence rows parts (join sequence (piece_at rows part) last)
chained-snoc sequence rows [] part last = refl
chained-snoc sequence rows (x ∷ parts) part last = ap (join sequence (piece_at rows x)) (chained-snoc sequence rows parts part last)

pub fit-push : (rows : Rows) (top : ℕ) (parts : List ℕ) (part : ℕ) → AllFit rows top parts → part ≤ top → IsSound (piece_at rows part) →
    AllFit rows top (parts ++ part ∷ [])
fit-push rows top [] part a h s = (h, s, tt)
fit-push rows top (x ∷ parts) part a h s = (a.0, a.1, fit-push rows top parts part a.2 h s)

pub fit-last : (rows : Rows) (top : ℕ) (parts : List ℕ) (part : ℕ) → AllFit rows top (parts ++ part ∷ []) → (part ≤ top)
    × IsSound (piece_at rows part)
fit-last rows top [] part a = (a.0, a.1)
fit-last rows top (x ∷ parts) part a = fit-last rows top parts part a.2

fit-front : (rows : Rows) (top : ℕ) (parts : List ℕ) (part : ℕ) → AllFit rows top (parts ++ part ∷ []) → AllFit rows top parts
fit-front rows top [] part a = tt
fit-front rows top (x ∷ parts) part a = (a.0, a.1, fit-front rows top parts part a.2)

join-plain : (sequence : Bool) (first rest : Piece) → IsPlain (join sequence first rest) → IsPlain first × IsPlain rest
join-plain true first rest p = p
join-plain false first rest p = p

chained-plain : (sequence : Bool) (rows : Rows) (parts : List ℕ) (last : Piece) → IsPlain (chained sequence rows parts last) → IsPlain last
chained-plain sequence rows [] last p = p
chained-plain sequence rows (x ∷ parts) last p = chained-plain sequence rows parts last
    (join-plain sequence (piece_at rows x) (chained sequence rows parts last) p).1

-- one more part is found
pub chain-more : (rows : Rows) (sequence : Bool) (top : ℕ) (parts new : List ℕ) (last part more : ℕ) (whole : Piece) → new ≡ parts ++ part
    ∷ [] → piece_at rows last ≡ join sequence (piece_at rows part) (piece_at rows more) →
    part < last → more < last → IsChain rows sequence top parts last whole → IsChain rows sequence top new more whole
chain-more rows sequence top parts new last part more whole grown is low less c =
    let s = both sequence (piece_at rows part) (piece_at rows more) (subst IsSound is c.sound) in
    subst (λ l. IsChain rows sequence top l more whole) (sym grown)
    (record {
      is = chained-snoc sequence rows parts part (piece_at rows more) ∙ ap (chained sequence rows parts) (sym is) ∙ c.is;
      fits = fit-push rows top parts part c.fits (let b = c.below in omega (arith, low, b)) s.0;
      below = (let b = c.below in omega (arith, less, b));
      sound = s.1;
    })
  where
    both : (sequence : Bool) (first rest : Piece) → IsSound (join sequence first rest) → IsSound first × IsSound rest
    both true first rest s = s
    both false first rest s = s

-- what of a chain was written, the last parts first
pub record Chaining (rows : Rows) (sequence : Bool) (top : ℕ) (whole : Piece) (next : ℕ) (old : List Instr) (parts : List ℕ)
    (code : List Instr) (now : ℕ) : Type 0 where
  pub last : Piece
  pub is : chained sequence rows parts last ≡ whole
  pub writes : Writes rows (pre last) next old code now
  pub fits : AllFit rows top parts
  pub within : now < length code
  pub grown : length old ≤ length code
  pub plain : IsPlain whole → HasNoLook old → HasNoLook code

pub chaining-first : (rows : Rows) (sequence : Bool) (top : ℕ) (whole : Piece) (next : ℕ) (old : List Instr) (parts : List ℕ) (last : ℕ)
    (code : List Instr) (now : ℕ) → IsChain rows sequence top parts last whole →
    Writes rows (pre (piece_at rows last)) next old code now → now < length code → length old ≤ length code →
    (IsPlain (piece_at rows last) → HasNoLook old → HasNoLook code) →
    Chaining rows sequence top whole next old parts code now
chaining-first rows sequence top whole next old parts last code now c w within grown plain =
    record {
      last = piece_at rows last;
      is = c.is;
      writes = w;
      fits = c.fits;
      within = within;
      grown = grown;
      plain = λ p. plain (chained-plain sequence rows parts (piece_at rows last) (subst IsPlain (sym c.is) p));
    }

part-plain : (rows : Rows) (sequence : Bool) (whole : Piece) (parts front : List ℕ) (part : ℕ) (last : Piece) → parts ≡ front ++ part ∷ [] →
    chained sequence rows parts last ≡ whole → IsPlain whole → IsPlain (piece_at rows part)
part-plain rows sequence whole parts front part last is e p =
    (join-plain sequence (piece_at rows part) last
    (chained-plain sequence rows front (join sequence (piece_at rows part) last)
    (subst IsPlain (sym e ∙ ap (λ l. chained sequence rows l last) is ∙ chained-snoc sequence rows front part last) p))).0

pub chaining-seq : (rows : Rows) (top : ℕ) (whole : Piece) (next : ℕ) (old : List Instr) (parts front : List ℕ) (part : ℕ)
    (code new : List Instr) (now begin : ℕ) → parts ≡ front ++ part ∷ [] →
    Writes rows (pre (piece_at rows part)) now code new begin → begin < length new → length code ≤ length new →
    (IsPlain (piece_at rows part) → HasNoLook code → HasNoLook new) →
    Chaining rows true top whole next old parts code now → Chaining rows true top whole next old front new begin
chaining-seq rows top whole next old parts front part code new now begin is v within longer plain c =
    record {
      last = seq (piece_at rows part) c.last;
      is = sym (chained-snoc true rows front part c.last) ∙ ap (λ l. chained true rows l c.last) (sym is) ∙ c.is;
      writes = writes-seq rows (piece_at rows part) c.last next old code new now begin c.writes v;
      fits = fit-front rows top front part (subst (AllFit rows top) is c.fits);
      within = within;
      grown = (let g = c.grown in omega (arith, g, longer));
      plain = λ p free. plain (part-plain rows true whole parts front part c.last is c.is p) (c.plain p free);
    }

pub chaining-either : (rows : Rows) (top : ℕ) (whole : Piece) (next : ℕ) (old : List Instr) (parts front : List ℕ) (part : ℕ)
    (code two new : List Instr) (now turn begin : ℕ) → parts ≡ front ++ part ∷ [] →
    Writes rows (pre (piece_at rows part)) next code two turn → length code ≤ length two →
    (IsPlain (piece_at rows part) → HasNoLook code → HasNoLook two) →
    new ≡ two ++ Split turn now ∷ [] → begin ≡ length two → begin < length new → length two ≤ length new →
    Chaining rows false top whole next old parts code now → Chaining rows false top whole next old front new begin
chaining-either rows top whole next old parts front part code two new now turn begin is v longer plain one here within more c =
    record {
      last = either (piece_at rows part) c.last;
      is = sym (chained-snoc false rows front part c.last) ∙ ap (λ l. chained false rows l c.last) (sym is) ∙ c.is;
      writes = writes-either rows (piece_at rows part) c.last next old code two new turn now begin c.writes v one here;
      fits = fit-front rows top front part (subst (AllFit rows top) is c.fits);
      within = within;
      grown = (let g = c.grown in omega (arith, g, longer, more));
      plain = λ p free. no-look-push two new (Split turn now) one (λ piece after e. grind (arith, e))
          (plain (part-plain rows false whole parts front part c.last is c.is p) (c.plain p free));
    }

pub chaining-end : (rows : Rows) (sequence : Bool) (top : ℕ) (whole : Piece) (next : ℕ) (old : List Instr) (parts : List ℕ)
    (code : List Instr) (now : ℕ) → parts ≡ [] → Chaining rows sequence top whole next old parts code now →
    Writes rows (pre whole) next old code now
chaining-end rows sequence top whole next old parts code now none c =
    subst (λ q. Writes rows (pre q) next old code now) (ap (λ l. chained sequence rows l c.last) (sym none) ∙ c.is) c.writes

pub part-fits : (rows : Rows) (sequence : Bool) (top : ℕ) (whole : Piece) (next : ℕ) (old : List Instr) (parts front : List ℕ) (part : ℕ)
    (code : List Instr) (now : ℕ) → parts ≡ front ++ part ∷ [] →
    Chaining rows sequence top whole next old parts code now → (part ≤ top) × IsSound (piece_at rows part)
part-fits rows sequence top whole next old parts front part code now is c = fit-last rows top front part (subst (AllFit rows top) is c.fits)
