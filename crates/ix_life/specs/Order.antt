-- The order in which buckets are retired.
use Rattle.std.specs.Prelude.{ℕ, ℤ, Bool, if◌then◌else◌, List, [], ◌∷◌}
use Rattle.std.specs.Ordering.{nat_cmp, int_cmp, ordering_then, is_lt}
use Rattle.std.specs.declared.cmp.Ordering.{Ordering}
use Rattle.ix_items.specs.declared.items.Bucket.{Bucket}

-- an element put into an ordered list, behind those that stand before it
abbrev pub put : {A : Type 0} → (A → A → Bool) → A → List A → List A
put before a [] = a ∷ []
put before a (x ∷ xs) = if before x a then x ∷ put before a xs else a ∷ x ∷ xs

-- a list in order; those of which neither stands before the other stay as they are
abbrev pub sorted_by : {A : Type 0} → (A → A → Bool) → List A → List A
sorted_by before [] = []
sorted_by before (x ∷ xs) = put before x (sorted_by before xs)

-- buckets go by the newest time, and then by the number
abbrev pub key : Bucket → ℤ × ℕ
key b = (b.newest, b.id)

abbrev pub key_cmp : ℤ × ℕ → ℤ × ℕ → Ordering
key_cmp x y = ordering_then (int_cmp x.0 y.0) (nat_cmp x.1 y.1)

abbrev pub is_before : Bucket → Bucket → Bool
is_before a b = is_lt (key_cmp (key a) (key b))

abbrev pub ordered : List Bucket → List Bucket
ordered bs = sorted_by is_before bs
