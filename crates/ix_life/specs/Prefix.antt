-- The size rule: the shortest prefix whose going meets a limit, or the whole list.
use Rattle.std.specs.Prelude.{◌≡◌, ◌<◌, ◌≤◌, ◌+◌, ℕ, suc, Bool, true, false, ◌&&◌, if◌then◌else◌, List, [], ◌∷◌, length, drop, Option}
use Rattle.std.specs.Prelude.{Some, None, nat_le}
use Rattle.std.specs.List.{sum_by}
use Rattle.ix_items.specs.declared.items.Bucket.{Bucket}
use Rattle.ix_life.specs.declared.caps.Cap.{Cap}

-- how many from the front must go until what is left is allowed: the shortest such prefix, or all
abbrev pub shortest : {A : Type 0} → (List A → Bool) → List A → ℕ
shortest allowed [] = 0
shortest allowed (x ∷ xs) = if allowed (x ∷ xs) then 0 else suc (shortest allowed xs)

-- what `shortest` is, in the words of the rule
pub record IsShortest {A : Type 0} (allowed : List A → Bool) (xs : List A) (n : ℕ) : Type 0 where
  pub within : n ≤ length xs
  pub met : n < length xs → allowed (drop n xs) ≡ true
  pub least : (m : ℕ) → m < n → allowed (drop m xs) ≡ false

abbrev pub sizes : List Bucket → ℕ
sizes bs = sum_by (λ b. b.bytes) bs

-- a limit that may be absent
abbrev pub meets : Option ℕ → ℕ → Bool
meets None n = true
meets (Some most) n = nat_le n most

-- whether so many buckets of so many bytes may stay
abbrev pub fits : Cap → ℕ → ℕ → Bool
fits cap count bytes = meets cap.most count && meets cap.within (cap.beside + bytes)

abbrev pub allowed : Cap → List Bucket → Bool
allowed cap rest = fits cap (length rest) (sizes rest)

-- The words of the rule fix the number.
abbrev pub HasOneShortest : Type 0
HasOneShortest = (cap : Cap) (bs : List Bucket) (n : ℕ) → IsShortest (allowed cap) bs n → n ≡ shortest (allowed cap) bs
