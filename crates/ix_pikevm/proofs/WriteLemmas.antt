-- What each piece is written out to.
use Rattle.std.proofs.Common.{◌≡◌, ℕ, zero, suc, ◌+◌, ◌<◌, ◌≤◌, min, max, Bool, List, [], ◌∷◌, ◌++◌, length, Option, Some, None, refl, sym}
use Rattle.std.proofs.Common.{◌∙◌, ap, subst, arith, set}
use Rattle.std.specs.Prelude.{slice_get, unwrap_or, option_map}
use Rattle.std.proofs.lemmas.List.{append-nil}
use Rattle.std.proofs.lemmas.Option.{slice_get-map}
use Rattle.ix_pattern.specs.Piece.{Piece, nothing, byte_in, start, finish, word, seq, either, group, ahead, least_length}
use Rattle.ix_pattern.specs.Ways.{onward, here, byte_ways, close_group, ways}
use Rattle.ix_pattern.specs.Rows.{Rows, piece_at, set_at, set_of, node_at, node_of}
use Rattle.ix_pattern.specs.declared.pattern.Node.{Node}
use Rattle.ix_pattern.specs.declared.pattern.Node.TheVariants.{Bytes}
use Rattle.ix_pikevm.specs.declared.code.Instr.{Instr}
use Rattle.ix_pikevm.specs.declared.code.Instr.TheVariants.{Byte, Split, Begin, Finish, TextStart, TextEnd, Word, Look}
use Rattle.ix_pikevm.specs.Code.{set_in, set_if, sets_of, ended}
use Rattle.ix_pikevm.specs.Aims.{Aim, aim_at, rest_rank, size, pre, Meets, Even, IsAhead, AreAims, Written, Writes}
use Rattle.ix_pikevm.proofs.AlikeLemmas.{Like-onward, Like-append, ways-like}
use Rattle.ix_pikevm.proofs.TurnLemmas.{onward-append, onward-onward, onward-piece}
use Rattle.ix_pikevm.proofs.AimLemmas.{meets-refl, written-one, written-then, written-want, now-stays, now-longer}

rest-nil : (l k : ℕ) → l ≡ 0 → rest_rank l k ≡ k
rest-nil zero k e = refl
rest-nil (suc l) k e = absurd (omega (arith, e))

rest-some : (l k : ℕ) → 0 < l → rest_rank l k ≡ 0
rest-some zero k h = absurd (omega (arith, h))
rest-some (suc l) k h = refl

rest-low : (l k : ℕ) → rest_rank l k ≤ k
rest-low zero k = omega arith
rest-low (suc l) k = omega arith

pub even-pre : (piece : Piece) (n : Aim) → Even n → Even (pre piece n)
even-pre piece n ev text began starts r s e =
    Like-onward (n.gives text began) (n.gives text starts) (ways piece text r) (ways piece text s) (ev text began starts)
    (ways-like piece text r s e)

-- ---- leaves

pub writes-nothing : (rows : Rows) (next : ℕ) (old : List Instr) → Writes rows (pre nothing) next old old next
unfolding ways least_length size
writes-nothing rows next old aims hole f h =
    record {
      now = aims;
      grown = ([], sym (append-nil aims));
      fits = f;
      within = h;
      meets = record { same = λ text began r le. sym (append-nil ((aim_at aims next).gives text began r)); low = omega arith };
    }

pub set-same : (rows : Rows) (k : ℕ) → node_at rows k ≡ Some Bytes → set_in (sets_of rows) k ≡ set_at rows k
set-same rows k node = ap (λ o. unwrap_or o []) (slice_get-map (λ row. set_if row.0 row.1) rows k) ∙ same (slice_get rows k) node
  where
    if-bytes : (n : Node) (set : List Bool) → Some n ≡ Some Bytes → set_if n set ≡ set
    if-bytes n set e = ap (λ m. set_if m set) (let f : n ≡ Bytes = cc in f)

    same : (o : Option (Node × List Bool)) → node_of o ≡ Some Bytes → unwrap_or (option_map (λ row. set_if row.0 row.1) o) [] ≡ set_of o
    same None e = refl
    same (Some row) e = if-bytes row.0 row.1 e

pub writes-byte : (rows : Rows) (at next : ℕ) (old new : List Instr) (begin : ℕ) → new ≡ old ++ Byte at next ∷ [] → begin ≡ length old →
    at < length rows → node_at rows at ≡ Some Bytes →
    Writes rows (pre (byte_in (set_at rows at))) next old new begin
unfolding ways least_length size
writes-byte rows at next old new begin is here lt node aims hole f h =
    written-one rows aims hole old new (pre (byte_in (set_at rows at)) (aim_at aims next))
    (pre (byte_in (set_at rows at)) (aim_at aims next)) (Byte at next) begin f is here
    (even-pre (byte_in (set_at rows at)) (aim_at aims next) (f.even next)) (omega (arith, h, f.all)) lt
    (λ text began r le. ap (λ s. onward ((aim_at aims next).gives text began) (byte_ways s text r (slice_get text.bytes r.place)))
    (sym (set-same rows at node)))
    (meets-refl (pre (byte_in (set_at rows at)) (aim_at aims next)))

pub writes-start : (rows : Rows) (lines : Bool) (next : ℕ) (old new : List Instr) (begin : ℕ) → new ≡ old ++ TextStart lines next ∷ [] →
    begin ≡ length old → Writes rows (pre (start lines)) next old new begin
unfolding ways least_length size
writes-start rows lines next old new begin is here aims hole f h =
    written-one rows aims hole old new (pre (start lines) (aim_at aims next)) (pre (start lines) (aim_at aims next)) (TextStart lines next)
    begin f is here
    (even-pre (start lines) (aim_at aims next) (f.even next)) (omega (arith, h, f.all)) tt ((λ text began r le. refl), omega arith)
    (meets-refl (pre (start lines) (aim_at aims next)))

pub writes-finish : (rows : Rows) (lines : Bool) (next : ℕ) (old new : List Instr) (begin : ℕ) → new ≡ old ++ TextEnd lines next ∷ [] →
    begin ≡ length old → Writes rows (pre (finish lines)) next old new begin
unfolding ways least_length size
writes-finish rows lines next old new begin is here aims hole f h =
    written-one rows aims hole old new (pre (finish lines) (aim_at aims next)) (pre (finish lines) (aim_at aims next)) (TextEnd lines next)
    begin f is here
    (even-pre (finish lines) (aim_at aims next) (f.even next)) (omega (arith, h, f.all)) tt ((λ text began r le. refl), omega arith)
    (meets-refl (pre (finish lines) (aim_at aims next)))

pub writes-word : (rows : Rows) (next : ℕ) (old new : List Instr) (begin : ℕ) → new ≡ old ++ Word next ∷ [] → begin ≡ length old →
    Writes rows (pre word) next old new begin
unfolding ways least_length size
writes-word rows next old new begin is here aims hole f h =
    written-one rows aims hole old new (pre word (aim_at aims next)) (pre word (aim_at aims next)) (Word next) begin f is here
    (even-pre word (aim_at aims next) (f.even next)) (omega (arith, h, f.all)) tt ((λ text began r le. refl), omega arith)
    (meets-refl (pre word (aim_at aims next)))

pub writes-look : (rows : Rows) (piece : ℕ) (inside : Piece) (wanted : Bool) (next : ℕ) (old new : List Instr) (begin : ℕ) → new ≡ old
    ++ Look piece next ∷ [] → begin ≡ length old →
    piece_at rows piece ≡ ahead inside wanted → IsAhead rows piece → Writes rows (pre (piece_at rows piece)) next old new begin
unfolding least_length size
writes-look rows piece inside wanted next old new begin is here at row aims hole f h =
    written-one rows aims hole old new (pre (piece_at rows piece) (aim_at aims next)) (pre (piece_at rows piece) (aim_at aims next))
    (Look piece next) begin f is here
    (even-pre (piece_at rows piece) (aim_at aims next) (f.even next)) (omega (arith, h, f.all)) row
    ((λ text began r le. refl), subst (λ q. (aim_at aims next).rank < (pre q (aim_at aims next)).rank) (sym at) (omega arith))
    (meets-refl (pre (piece_at rows piece) (aim_at aims next)))

-- ---- sequences

seq-rank : (la lb sa sb rb rn : ℕ) → rb ≤ sb + rest_rank lb rn → sa + rest_rank la rb ≤ (sa + sb) + rest_rank (la + lb) rn
seq-rank zero zero sa sb rb rn h = let e = rest-nil (0 + 0) rn (omega arith) in omega (arith, h, e)
seq-rank zero (suc lb) sa sb rb rn h = omega (arith, h)
seq-rank (suc la) lb sa sb rb rn h = omega arith

meets-seq : (first rest : Piece) (b n : Aim) → Meets b (pre rest n) → Meets (pre first b) (pre (seq first rest) n)
unfolding ways least_length size
meets-seq first rest b n m =
    record {
      same = λ text began r h.
          onward-piece first text (b.gives text began) (λ e. onward (n.gives text began) (ways rest text e)) r h (m.same text began)
          ∙ sym (onward-onward (n.gives text began) (ways rest text) (ways first text r));
      low = seq-rank (least_length first) (least_length rest) (size first) (size rest) b.rank n.rank m.low;
    }

pub writes-seq : (rows : Rows) (first rest : Piece) (next : ℕ) (old mid new : List Instr) (b begin : ℕ) →
    Writes rows (pre rest) next old mid b → Writes rows (pre first) b mid new begin →
    Writes rows (pre (seq first rest)) next old new begin
writes-seq rows first rest next old mid new b begin u v aims hole f h =
    let w = u aims hole f h in
    written-then rows aims hole mid new (pre rest (aim_at aims next)) (pre (seq first rest) (aim_at aims next)) b begin w
    (written-want rows w.now hole new (pre first (aim_at w.now b)) (pre (seq first rest) (aim_at aims next)) begin
    (meets-seq first rest (aim_at w.now b) (aim_at aims next) w.meets)
    (v w.now hole w.fits w.within))

-- ---- two ways on

abbrev pub fork : Aim → Aim → Aim
fork x y = record { gives = λ text began r. x.gives text began r ++ y.gives text began r; rank = suc (max x.rank y.rank) }

even-fork : (x y : Aim) → Even x → Even y → Even (fork x y)
even-fork x y ex ey text began starts r s e =
    Like-append (x.gives text began r) (x.gives text starts s) (y.gives text began r) (y.gives text starts s) (ex text began starts r s e)
    (ey text began starts r s e)

-- a split is written
pub written-fork : (rows : Rows) (aims : List Aim) (hole : ℕ → Bool) (code new : List Instr) (want : Aim) (x y begin : ℕ) →
    AreAims rows aims hole code → new ≡ code ++ Split x y ∷ [] → begin ≡ length code →
    x < length aims → y < length aims → Meets (fork (aim_at aims x) (aim_at aims y)) want → Written rows want aims hole new begin
written-fork rows aims hole code new want x y begin f is here hx hy m =
    written-one rows aims hole code new (fork (aim_at aims x) (aim_at aims y)) want (Split x y) begin f is here
    (even-fork (aim_at aims x) (aim_at aims y) (f.even x) (f.even y)) (omega (arith, hx, f.all), omega (arith, hy, f.all)) tt
    ((λ text began r le. refl), omega arith, omega arith) m

either-rank : (la lb sa sb ra rb rn : ℕ) → ra ≤ sa + rest_rank la rn → rb ≤ sb + rest_rank lb rn →
    suc (max ra rb) ≤ suc (sa + sb) + rest_rank (min la lb) rn
either-rank zero lb sa sb ra rb rn h k = let e = rest-nil (min 0 lb) rn (omega arith) in let l = rest-low lb rn in omega (arith, h, k, e, l)
either-rank (suc la) zero sa sb ra rb rn h k = let e = rest-nil (min (suc la) 0) rn (omega arith) in omega (arith, h, k, e)
either-rank (suc la) (suc lb) sa sb ra rb rn h k = omega (arith, h, k)

meets-either : (first other : Piece) (a b n : Aim) → Meets a (pre first n) → Meets b (pre other n) →
    Meets (fork a b) (pre (either first other) n)
unfolding ways least_length size
meets-either first other a b n m k =
    record {
      same = λ text began r h. ap (λ l. l ++ b.gives text began r) (m.same text began r h)
          ∙ ap (λ l. onward (n.gives text began) (ways first text r) ++ l) (k.same text began r h)
          ∙ sym (onward-append (n.gives text began) (ways first text r) (ways other text r));
      low = either-rank (least_length first) (least_length other) (size first) (size other) a.rank b.rank n.rank m.low k.low;
    }

-- the other one was written before the first
pub writes-either : (rows : Rows) (first other : Piece) (next : ℕ) (old one two new : List Instr) (a b begin : ℕ) →
    Writes rows (pre other) next old one b → Writes rows (pre first) next one two a →
    new ≡ two ++ Split a b ∷ [] → begin ≡ length two → Writes rows (pre (either first other)) next old new begin
writes-either rows first other next old one two new a b begin u v is here aims hole f h =
    let w = u aims hole f h in
    let lt : next < length w.now = (let l = now-longer rows (pre other (aim_at aims next)) aims hole one b w in omega (arith, l, h)) in
    let x = v w.now hole w.fits lt in
    let stays : aim_at w.now next ≡ aim_at aims next = now-stays rows (pre other (aim_at aims next)) aims hole one b w next h in
    let kept : aim_at x.now b ≡ aim_at w.now b = now-stays rows (pre first (aim_at w.now next)) w.now hole two a x b w.within in
    let lb : b < length x.now = (let l = now-longer rows (pre first (aim_at w.now next)) w.now hole two a x in
    omega (arith, l, w.within)) in
    written-then rows aims hole one new (pre other (aim_at aims next)) (pre (either first other) (aim_at aims next)) b begin w
    (written-then rows w.now hole two new (pre first (aim_at w.now next)) (pre (either first other) (aim_at aims next)) a begin x
    (written-fork rows x.now hole two new (pre (either first other) (aim_at aims next)) a b begin x.fits is here x.within lb
    (meets-either first other (aim_at x.now a) (aim_at x.now b) (aim_at aims next)
    (subst (λ k. Meets (aim_at x.now a) (pre first k)) stays x.meets)
    (subst (λ k. Meets k (pre other (aim_at aims next))) (sym kept) w.meets))))

-- ---- groups

abbrev pub closing : ℕ → Aim → Aim
closing number n = record {
  gives = λ text began r. n.gives text (ended number r.place r.groups began).began
      (record { place = r.place; groups = (ended number r.place r.groups began).groups });
  rank = suc n.rank;
}

abbrev pub beginning : Aim → Aim
beginning n = record { gives = λ text began r. n.gives text (r.place ∷ began) r; rank = suc n.rank }

meets-group : (number : ℕ) (inside : Piece) (a e n : Aim) → Meets a (pre inside e) → Meets e (closing number n) →
    Meets (beginning a) (pre (group number inside) n)
unfolding ways least_length size
meets-group number inside a e n m k =
    record {
      same = λ text began r h. m.same text (r.place ∷ began) r h
          ∙ onward-piece inside text (e.gives text (r.place ∷ began)) (λ d. onward (n.gives text began) (close_group number r.place d)) r h
          (λ d hd. k.same text (r.place ∷ began) d hd ∙ sym (append-nil ((closing number n).gives text (r.place ∷ began) d)))
          ∙ sym (onward-onward (n.gives text began) (close_group number r.place) (ways inside text r));
      low = rank (least_length inside) m.low k.low;
    }
  where
    rank : (l : ℕ) → a.rank ≤ size inside + rest_rank l e.rank → e.rank ≤ suc n.rank →
        suc a.rank ≤ suc (suc (size inside)) + rest_rank l n.rank
    rank zero x y = omega (arith, x, y)
    rank (suc l) x y = omega (arith, x, y)

pub writes-group : (rows : Rows) (number : ℕ) (inside : Piece) (next : ℕ) (old one two new : List Instr) (e s begin : ℕ) → one ≡ old
    ++ Finish number next ∷ [] → e ≡ length old →
    Writes rows (pre inside) e one two s → new ≡ two ++ Begin s ∷ [] → begin ≡ length two →
    Writes rows (pre (group number inside)) next old new begin
writes-group rows number inside next old one two new e s begin is1 at1 v is2 at2 aims hole f h =
    let w = written-one rows aims hole old one (closing number (aim_at aims next)) (closing number (aim_at aims next)) (Finish number next)
    e f is1 at1
    (λ text began starts r s p. f.even next text (ended number r.place r.groups began).began (ended number s.place s.groups starts).began
    (record { place = r.place; groups = (ended number r.place r.groups began).groups })
    (record { place = s.place; groups = (ended number s.place s.groups starts).groups }) p)
    (omega (arith, h, f.all)) tt ((λ text began r le. refl), omega arith) (meets-refl (closing number (aim_at aims next))) in
    let x = v w.now hole w.fits w.within in
    written-then rows aims hole one new (closing number (aim_at aims next)) (pre (group number inside) (aim_at aims next)) e begin w
    (written-then rows w.now hole two new (pre inside (aim_at w.now e)) (pre (group number inside) (aim_at aims next)) s begin x
    (written-one rows x.now hole two new (beginning (aim_at x.now s)) (pre (group number inside) (aim_at aims next)) (Begin s) begin x.fits
    is2 at2
    (λ text began starts r q p. x.fits.even s text (r.place ∷ began) (q.place ∷ starts) r q p)
    (omega (arith, x.within, x.fits.all)) tt ((λ text began r le. refl), omega arith)
    (meets-group number inside (aim_at x.now s) (aim_at w.now e) (aim_at aims next) x.meets w.meets)))
