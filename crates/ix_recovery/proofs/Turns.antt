-- One turn more of the loops over what was gathered.
use Rattle.std.proofs.Common.{◌≡◌, ℕ, ◌+◌, ◌<◌, Bool, true, false, List, [], ◌∷◌, ◌++◌, length, take, get_or, sym, ap, subst, ◌∙◌}
use Rattle.std.specs.Prelude.{Some, None, if◌then◌else◌, bytes_eq}
use Rattle.std.specs.List.{AllZip, filter_map, cons_option}
use Rattle.std.proofs.lemmas.List.{take_more}
use Rattle.std.proofs.lemmas.List.Elements.{filter_map-append}
use Rattle.ix_items.specs.declared.items.Bucket.{Bucket}
use Rattle.ix_recovery.specs.declared.gathering.Placed.{Placed}
use Rattle.ix_recovery.specs.Recalled.{bucket_of}

-- the things before a place, and the one there
more : {X : Type 0} (xs : List X) (i : ℕ) (x : X) → i < length xs → x ≡ get_or xs i x → take (i + 1) xs ≡ take i xs ++ x ∷ []
more xs i x within is = take_more xs i x within ∙ ap (λ y. take i xs ++ y ∷ []) (sym is)

-- ---- lists that go together

zip_push : {X Y : Type 0} (R : X → Y → Type 0) (xs : List X) (ys : List Y) (x : X) (y : Y) → AllZip R xs ys → R x y →
    AllZip R (xs ++ x ∷ []) (ys ++ y ∷ [])
zip_push R [] [] x y h r = (r, tt)
zip_push R [] (w ∷ ys) x y h r = absurd h
zip_push R (v ∷ xs) [] x y h r = absurd h
zip_push R (v ∷ xs) (w ∷ ys) x y h r = (h.0, zip_push R xs ys x y h.1 r)

pub zip_more : {X Y : Type 0} (R : X → Y → Type 0) (xs : List X) (i : ℕ) (x : X) (ys new : List Y) (y : Y) → i < length xs →
    x ≡ get_or xs i x →
    AllZip R (take i xs) ys → R x y → new ≡ ys ++ y ∷ [] → AllZip R (take (i + 1) xs) new
zip_more R xs i x ys new y within is before here put =
    subst (λ l. AllZip R l new) (sym (more xs i x within is))
    (subst (AllZip R (take i xs ++ x ∷ [])) (sym put) (zip_push R (take i xs) ys x y before here))

-- ---- the buckets of an index

one_picked : (index : List ℕ) (x : Placed) (b : Bool) → bytes_eq x.index index ≡ b →
    filter_map (bucket_of index) (x ∷ []) ≡ (if b then x.bucket ∷ [] else [])
one_picked index x true is = ap (λ (t : Bool). cons_option (if t then Some x.bucket else None) []) is
one_picked index x false is = ap (λ (t : Bool). cons_option (if t then Some x.bucket else None) []) is

pub picks_more : (index : List ℕ) (placed : List Placed) (i : ℕ) (x : Placed) (lent : List ℕ) (old new : List Bucket) (test b : Bool) →
    i < length placed →
    x ≡ get_or placed i x → old ≡ filter_map (bucket_of index) (take i placed) → lent ≡ x.index → test ≡ bytes_eq lent index → test ≡ b →
    new ≡ old ++ (if b then x.bucket ∷ [] else []) → new ≡ filter_map (bucket_of index) (take (i + 1) placed)
picks_more index placed i x lent old new test b within is before named tests said put =
    let same : bytes_eq x.index index ≡ b = ap (λ l. bytes_eq l index) (sym named) ∙ sym tests ∙ said in
    put ∙ ap (λ l. l ++ (if b then x.bucket ∷ [] else [])) before
    ∙ ap (λ l. filter_map (bucket_of index) (take i placed) ++ l) (sym (one_picked index x b same))
    ∙ sym (filter_map-append (bucket_of index) (take i placed) (x ∷ []))
    ∙ ap (filter_map (bucket_of index)) (sym (more placed i x within is))
