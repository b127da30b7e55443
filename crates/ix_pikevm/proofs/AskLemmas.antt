-- What lookaheads ask, written out.
use Rattle.std.proofs.Common.{◌≡◌, ℕ, zero, suc, ◌+◌, ◌<◌, inl, inr, Bool, true, false, List, [], ◌∷◌, ◌++◌, length, Some, refl, sym, ◌∙◌}
use Rattle.std.proofs.Common.{ap, subst, arith, eqb}
use Rattle.std.specs.Prelude.{slice_get}
use Rattle.std.proofs.lemmas.Option.{slice_get_within}
use Rattle.ix_pattern.specs.Piece.{Piece, ahead}
use Rattle.ix_pattern.specs.Rows.{Rows, piece_at}
use Rattle.ix_pikevm.specs.declared.code.Instr.{Instr}
use Rattle.ix_pikevm.specs.declared.code.Instr.TheVariants.{Match, Byte, Split, Jump, Begin, Finish, TextStart, TextEnd, Word, Look}
use Rattle.ix_pikevm.specs.declared.code.Lookahead.{Lookahead}
use Rattle.ix_pikevm.specs.Code.{IsCode, HasSets}
use Rattle.ix_pikevm.specs.Looks.{HasNoLook}
use Rattle.ix_pikevm.specs.Aims.{stop_aim, aim_at, pre, Meets, Writes}
use Rattle.ix_pikevm.specs.Programs.{no_hole, AreAsks, IsAsked, AllAsked, AsksFit}
use Rattle.ix_pikevm.specs.Written.{IsAskBy, Collecting, StillAsked, IsNamed, IsCollected}
use Rattle.ix_pikevm.proofs.HistoryLemmas.{get-left, get-seam}
use Rattle.ix_pikevm.proofs.AimLemmas.{get-snoc, now-stays, now-longer}
use Rattle.ix_pikevm.proofs.ProgramLemmas.{stop-aims, row-set}

no-look-first : (inner : List Instr) → inner ≡ Match ∷ [] → HasNoLook inner
no-look-first inner is pc piece next e = at pc (subst (λ l. slice_get l pc ≡ Some (Look piece next)) is e)
  where
    at : (pc : ℕ) → slice_get (Match ∷ []) pc ≡ Some (Look piece next) → ⊥
    at zero e = grind (arith, e)
    at (suc k) e = let h = slice_get_within (Match ∷ []) (suc k) (Look piece next) e in omega (arith, h)

no-ask : (asks : List Lookahead) (k : ℕ) (ask : Lookahead) → asks ≡ [] → slice_get asks k ≡ Some ask → ⊥
no-ask asks k ask none e = let h = slice_get_within asks k ask e in let n : length asks ≡ 0 = ap length none in omega (arith, h, n)

pub collecting-first : (rows : Rows) (asks : List Lookahead) (inner : List Instr) → asks ≡ [] → inner ≡ Match ∷ [] →
    Collecting rows asks inner
collecting-first rows asks inner none is =
    record {
      aims = stop_aim ∷ [];
      fits = stop-aims rows inner is;
      some = omega arith;
      first = refl;
      plain = no-look-first inner is;
      each = λ k ask e. absurd (no-ask asks k ask none e);
    }

pub collecting-more : (rows : Rows) (asks more : List Lookahead) (inner new : List Instr) (ask : Lookahead) (inside : Piece) → more ≡ asks
    ++ ask ∷ [] → Writes rows (pre inside) 0 inner new ask.start →
    (HasNoLook inner → HasNoLook new) → piece_at rows ask.piece ≡ ahead inside ask.wanted → ask.piece < length rows →
    Collecting rows asks inner → Collecting rows more new
collecting-more rows asks more inner new ask inside grown writes plain is below c =
    let w = writes c.aims no_hole c.fits c.some in
    let longer = now-longer rows (pre inside (aim_at c.aims 0)) c.aims no_hole new ask.start w in
    record {
      aims = w.now;
      fits = w.fits;
      some = omega (arith, longer, c.some);
      first = now-stays rows (pre inside (aim_at c.aims 0)) c.aims no_hole new ask.start w 0 c.some ∙ c.first;
      plain = plain c.plain;
      each = λ k a e. elim (get-snoc asks ask a k (subst (λ l. slice_get l k ≡ Some a) grown e)) [
        | inl f ↦
            let b = c.each k a f in
            record {
              inside = b.inside;
              is = b.is;
              below = b.below;
              within = omega (arith, longer, b.within);
              meets = subst (λ m. Meets m (pre b.inside stop_aim))
                  (sym (now-stays rows (pre inside (aim_at c.aims 0)) c.aims no_hole new ask.start w a.start b.within)) b.meets;
            }
        | inr f ↦
            subst (IsAskBy rows w.now) f.1
            (record {
              inside = inside;
              is = is;
              below = below;
              within = w.within;
              meets = subst (λ n. Meets (aim_at w.now ask.start) (pre inside n)) c.first w.meets;
            })
      ];
    }

pub still-asked : (asks more : List Lookahead) (ask : Lookahead) → more ≡ asks ++ ask ∷ [] → StillAsked asks more
still-asked asks more ask is piece a =
    record {
      k = a.k;
      ask = a.ask;
      at = ap (λ l. slice_get l a.k) is ∙ get-left asks (ask ∷ []) a.k (slice_get_within asks a.k a.ask a.at) ∙ a.at;
      is = a.is;
    }

pub newly-asked : (asks more : List Lookahead) (ask : Lookahead) → more ≡ asks ++ ask ∷ [] → IsAsked more ask.piece
newly-asked asks more ask is =
    record { k = length asks; ask = ask; at = ap (λ l. slice_get l (length asks)) is ∙ get-seam asks ask []; is = refl }

pub named-still : (i : Instr) (old new : List Lookahead) → StillAsked old new → IsNamed i old → IsNamed i new
named-still Match old new s n = tt
named-still (Byte set next) old new s n = tt
named-still (Split first other) old new s n = tt
named-still (Jump next) old new s n = tt
named-still (Begin next) old new s n = tt
named-still (Finish number next) old new s n = tt
named-still (TextStart lines next) old new s n = tt
named-still (TextEnd lines next) old new s n = tt
named-still (Word next) old new s n = tt
named-still (Look piece next) old new s n = s piece n

some-same : (a b : Instr) → Some a ≡ Some b → a ≡ b
some-same a b e = cc

pub collected-more : (rows : Rows) (code : List Instr) (n : ℕ) (i : Instr) (asks more : List Lookahead) (inner new : List Instr) →
    slice_get code n ≡ Some i → Collecting rows more new → StillAsked asks more → IsNamed i more →
    IsCollected rows code n asks inner → IsCollected rows code (n + 1) more new
collected-more rows code n i asks more inner new got c s named old =
    record { collecting = c; asked = λ pc j h e. at pc j h e (eqb pc n) refl }
  where
    at : (pc : ℕ) (j : Instr) → pc < n + 1 → slice_get code pc ≡ Some j → (b : Bool) → eqb pc n ≡ b → IsNamed j more
    at pc j h e true q =
        let f : pc ≡ n = grind (arith, q) in
        subst (λ k. IsNamed k more) (some-same i j (sym got ∙ ap (slice_get code) (sym f) ∙ e)) named
    at pc j h e false q = named-still j asks more s (old.asked pc j (let lt : pc < n = grind (arith, h, q) in lt) e)

-- ---- what was collected

pub collected-asked : (rows : Rows) (code : List Instr) (asks : List Lookahead) (inner : List Instr) →
    IsCollected rows code (length code) asks inner → AllAsked asks code
collected-asked rows code asks inner c pc piece next e = c.asked pc (Look piece next) (slice_get_within code pc (Look piece next) e) e

pub collected-asks : (rows : Rows) (asks : List Lookahead) (inner : List Instr) → Collecting rows asks inner → AreAsks rows inner asks
collected-asks rows asks inner c k ask e =
    let b = c.each k ask e in
    record {
      inside = b.inside;
      is = b.is;
      program = record {
        aims = c.aims;
        fits = c.fits;
        within = omega (arith, b.within, c.fits.all);
        meets = b.meets;
      };
    }

pub collected-fit : (rows : Rows) (asks : List Lookahead) (inner : List Instr) → Collecting rows asks inner →
    AsksFit asks (length inner) (length rows)
collected-fit rows asks inner c k ask e = let b = c.each k ask e in (omega (arith, b.within, c.fits.all), b.below)

pub collected-code : (rows : Rows) (asks : List Lookahead) (inner : List Instr) → Collecting rows asks inner → IsCode inner
collected-code rows asks inner c pc i e = (c.fits.right pc i e).targets

pub collected-sets : (rows : Rows) (asks : List Lookahead) (inner : List Instr) → Collecting rows asks inner → HasSets (length rows) inner
collected-sets rows asks inner c pc i e = row-set rows i (c.fits.right pc i e).row
