-- The bytes with which every match begins.
use Rattle.std.proofs.Common.{◌≡◌, ◌⊎◌, inl, inr, ℕ, ◌+◌, ◌<◌, ◌≤◌, Bool, true, false, eqb, List, [], ◌∷◌, ◌++◌, length, length-append}
use Rattle.std.proofs.Common.{get_or, if◌then◌else◌, Option, Some, None, refl, sym, ◌∙◌, ap, subst, arith}
use Rattle.std.specs.Prelude.{slice_get, replicate, ◌==◌}
use Rattle.std.proofs.lemmas.List.{get_or_append_left, get_or_push}
use Rattle.std.proofs.lemmas.Option.{slice_get_within, get_or_from_slice_get}
use Rattle.memchr.specs.Find.{OccursAt}
use Rattle.ix_pattern.specs.Piece.{Piece, byte_in, seq, in_set}
use Rattle.ix_pattern.specs.Ways.{Text, Reached, edge, onward, here, byte_ways, ways}
use Rattle.ix_pattern.specs.Rows.{Shape, tree}
use Rattle.ix_match.specs.Fronts.{fronts, in_one}
use Rattle.ix_match.specs.Few.{AreItsBytes, is_one_of}
use Rattle.ix_match.specs.declared.few.Few.TheVariants.{One}
use Rattle.ix_match.specs.Matches.{closed}
use Rattle.ix_match.specs.Leads.{AreBytes, EachBegins, TakesOne, Begun, Leads, Begins}
use Rattle.ix_match.proofs.FrontLemmas.{Silent, here-silent, no-front}

pub leads-init : (whole : Piece) → Leads whole whole []
leads-init whole text r closed are within =
    inr (record {
      occurs = record { fits = omega (arith, within); reads = λ j low. absurd (omega (arith, low)) };
      on = λ q. q r (omega arith);
    })

one-ways : (set : List Bool) (text : Text) (s : Reached) → ways (byte_in set) text s ≡ byte_ways set text s (slice_get text.bytes s.place)
unfolding ways
one-ways set text s = refl

seq-ways : (first rest : Piece) (text : Text) (s : Reached) → ways (seq first rest) text s ≡ onward (ways rest text) (ways first text s)
unfolding ways
seq-ways first rest text s = refl

-- at the place there is the byte that the piece takes, or the piece has no way there
one-byte : (piece : Piece) (byte : ℕ) (text : Text) (k : ℕ) → TakesOne piece byte → text.unfinished ≡ false → AreBytes text.bytes →
    Silent (ways piece text) k ⊎ (slice_get text.bytes k ≡ Some byte)
one-byte piece byte text k t closed are = by (slice_get text.bytes k) refl
  where
    silent : (o : Option ℕ) → slice_get text.bytes k ≡ o → ((s : Reached) → byte_ways t.set text s o ≡ []) → Silent (ways piece text) k
    silent o e none s place =
        ap (λ (p : Piece). ways p text s) t.is ∙ one-ways t.set text s
        ∙ ap (λ (n : ℕ). byte_ways t.set text s (slice_get text.bytes n)) place
        ∙ ap (byte_ways t.set text s) e ∙ none s

    tested : (b : ℕ) → slice_get text.bytes k ≡ Some b → (test : Bool) → in_set t.set b ≡ test → Silent (ways piece text) k
        ⊎ (slice_get text.bytes k ≡ Some byte)
    tested b e true is =
        let low : b < 256 = subst (λ (n : ℕ). n < 256) (get_or_from_slice_get text.bytes k b 0 e) (are k) in
        inr (e ∙ ap Some (t.only b low is))
    tested b e false is = inl (silent (Some b) e (λ s. ap (λ (test : Bool). here test (record s { place = s.place + 1 })) is))

    by : (o : Option ℕ) → slice_get text.bytes k ≡ o → Silent (ways piece text) k ⊎ (slice_get text.bytes k ≡ Some byte)
    by None e = inl (silent None e (λ s. ap (λ (u : Bool). if u then edge ∷ [] else []) closed))
    by (Some b) e = tested b e (in_set t.set b) refl

-- the bytes with one more stand there
longer : (text bytes : List ℕ) (k byte : ℕ) → OccursAt text bytes k → slice_get text (k + length bytes) ≡ Some byte →
    OccursAt text (bytes ++ byte ∷ []) k
longer text bytes k byte o e =
    record {
      fits = (let low : k + length bytes < length text = slice_get_within text (k + length bytes) byte e in
          omega (arith, low, length-append bytes (byte ∷ [])));
      reads = λ j low. at j (omega (arith, low, length-append bytes (byte ∷ []))) (eqb j (length bytes)) refl;
    }
  where
    at : (j : ℕ) → j < length bytes + 1 → (t : Bool) → eqb j (length bytes) ≡ t → get_or text (k + j) 0 ≡ get_or (bytes ++ byte ∷ []) j 0
    at j low true is =
        let here : j ≡ length bytes = grind (arith, is) in
        ap (λ (n : ℕ). get_or text (k + n) 0) here ∙ get_or_from_slice_get text (k + length bytes) byte 0 e
        ∙ sym (get_or_push bytes byte 0 j (sym here))
    at j low false is =
        let less : j < length bytes = grind (arith, low, is) in
        o.reads j less ∙ sym (get_or_append_left bytes (byte ∷ []) 0 j less)

-- the first piece of a sequence takes one byte
pub leads-byte : (whole at first rest : Piece) (bytes : List ℕ) (byte : ℕ) → at ≡ seq first rest → TakesOne first byte →
    Leads whole at bytes →
    Leads whole rest (bytes ++ byte ∷ [])
leads-byte whole at first rest bytes byte is one leads text r closed are within = by (leads text r closed are within)
  where
    found : Begun text r whole at bytes → Silent (ways first text) (r.place + length bytes)
        ⊎ (slice_get text.bytes (r.place + length bytes) ≡ Some byte) →
        (ways whole text r ≡ []) ⊎ Begun text r whole rest (bytes ++ byte ∷ [])
    found b (inl none) =
        inl (b.on (λ s place. ap (λ (p : Piece). ways p text s) is ∙ seq-ways first rest text s
        ∙ ap (onward (ways rest text)) (none s place)))
    found b (inr got) =
        inr (record {
          occurs = longer text.bytes bytes r.place byte b.occurs got;
          on = λ q. b.on (λ s place.
              ap (λ (p : Piece). ways p text s) is ∙ seq-ways first rest text s
              ∙ ap (λ (p : Piece). onward (ways rest text) (ways p text s)) one.is
              ∙ ap (onward (ways rest text)) (one-ways one.set text s)
              ∙ ap (λ (n : ℕ). onward (ways rest text) (byte_ways one.set text s (slice_get text.bytes n))) place
              ∙ ap (λ (o : Option ℕ). onward (ways rest text) (byte_ways one.set text s o)) got
              ∙ here-silent (ways rest text) (record s { place = s.place + 1 }) (in_set one.set byte)
              (q (record s { place = s.place + 1 }) (omega (arith, place, length-append bytes (byte ∷ [])))));
        })

    by : (ways whole text r ≡ []) ⊎ Begun text r whole at bytes → (ways whole text r ≡ []) ⊎ Begun text r whole rest (bytes ++ byte ∷ [])
    by (inl none) = inl none
    by (inr b) = found b (one-byte first byte text (r.place + length bytes) one closed are)

none-empty : (o : Option ℕ) → in_one o [] ≡ false
none-empty None = refl
none-empty (Some b) = refl

-- the first piece of a sequence takes no byte
pub leads-nothing : (whole at first rest : Piece) (bytes : List ℕ) → at ≡ seq first rest → fronts first ≡ [] → Leads whole at bytes →
    Leads whole rest bytes
leads-nothing whole at first rest bytes is none leads text r closed are within = by (leads text r closed are within)
  where
    by : (ways whole text r ≡ []) ⊎ Begun text r whole at bytes → (ways whole text r ≡ []) ⊎ Begun text r whole rest bytes
    by (inl e) = inl e
    by (inr b) =
        inr (record {
          occurs = b.occurs;
          on = λ q. b.on (λ s place.
              ap (λ (p : Piece). ways p text s) is ∙ seq-ways first rest text s
              ∙ no-front first text (ways rest text) s closed (ap (in_one (slice_get text.bytes s.place)) none
              ∙ none-empty (slice_get text.bytes s.place))
              (λ empty t there. q t (there ∙ place)));
        })

-- no more is known
pub leads-stop : (whole at : Piece) (bytes : List ℕ) → Leads whole at bytes → Begins whole bytes
leads-stop whole at bytes leads text r closed are within = by (leads text r closed are within)
  where
    by : (ways whole text r ≡ []) ⊎ Begun text r whole at bytes → (ways whole text r ≡ []) ⊎ OccursAt text.bytes bytes r.place
    by (inl none) = inl none
    by (inr b) = inr b.occurs

-- the last piece takes one byte
pub leads-last : (whole at : Piece) (bytes : List ℕ) (byte : ℕ) → TakesOne at byte → Leads whole at bytes →
    Begins whole (bytes ++ byte ∷ [])
leads-last whole at bytes byte one leads text r closed are within = by (leads text r closed are within)
  where
    found : Begun text r whole at bytes → Silent (ways at text) (r.place + length bytes)
        ⊎ (slice_get text.bytes (r.place + length bytes) ≡ Some byte) →
        (ways whole text r ≡ []) ⊎ OccursAt text.bytes (bytes ++ byte ∷ []) r.place
    found b (inl none) = inl (b.on none)
    found b (inr got) = inr (longer text.bytes bytes r.place byte b.occurs got)

    by : (ways whole text r ≡ []) ⊎ Begun text r whole at bytes → (ways whole text r ≡ [])
        ⊎ OccursAt text.bytes (bytes ++ byte ∷ []) r.place
    by (inl none) = inl none
    by (inr b) = found b (one-byte at byte text (r.place + length bytes) one closed are)

pub each-begins : (p : Shape) (bytes : List ℕ) → Begins (tree p.rows) bytes → EachBegins p bytes
each-begins p bytes begins text place are within = begins (closed text) (record { place = place; groups = replicate p.groups None }) refl
    are within

-- a byte piece whose set has one byte
pub takes-one : (piece : Piece) (set own : List Bool) (byte : ℕ) → piece ≡ byte_in own → AreItsBytes (is_one_of (One byte)) set →
    ((b : ℕ) → b < 256 → in_set set b ≡ in_set own b) → TakesOne piece byte
takes-one piece set own byte is one same =
    record {
      set = own;
      is = is;
      only = λ c low e. (let t : (c == byte) ≡ true = sym (one c low) ∙ same c low ∙ e in grind (arith, t));
    }
