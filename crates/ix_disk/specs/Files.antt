-- When two names are of one file.
use Rattle.std.specs.Prelude.{◌≡◌, ◌≢◌, ◌⊎◌, ◌==◌, ◌&&◌, ℕ, zero, suc, Bool, true, false, refl}
use Rattle.std.proofs.Common.{inl, inr, sym, ◌∙◌, ap, arith}
use Rattle.std.proofs.lemmas.Bool.Decides.{nat_tests}
use Rattle.ix_base.specs.declared.files.Area.{Area}
use Rattle.ix_base.specs.declared.files.Area.TheVariants.{Meta, Home, Cold, Frozen, Thawed}
use Rattle.ix_base.specs.declared.files.File.{File}

abbrev pub area_number : Area → ℕ
area_number Meta = 0
area_number Home = 1
area_number Cold = 2
area_number Frozen = 3
area_number Thawed = 4

abbrev pub is_same : File → File → Bool
is_same a b = (area_number a.area == area_number b.area) && (a.number == b.number)

-- files that are told to be the same are
area_of : ℕ → Area
area_of zero = Meta
area_of (suc zero) = Home
area_of (suc (suc zero)) = Cold
area_of (suc (suc (suc zero))) = Frozen
area_of (suc (suc (suc (suc n)))) = Thawed

area_back : (a : Area) → area_of (area_number a) ≡ a
unfolding area_of
area_back Meta = refl
area_back Home = refl
area_back Cold = refl
area_back Frozen = refl
area_back Thawed = refl

same_area : (a b : Area) → area_number a ≡ area_number b → a ≡ b
same_area a b is = sym (area_back a) ∙ ap area_of is ∙ area_back b

pub same_file : (a b : File) → is_same a b ≡ true → a ≡ b
same_file a b is =
    let areas : area_number a.area ≡ area_number b.area = grind (arith, nat_tests) in
    let numbers : a.number ≡ b.number = grind (arith, nat_tests) in
    λ i. record { area = same_area a.area b.area areas i; number = numbers i }

pub other_file : (a b : File) → is_same a b ≡ false → a ≢ b
other_file a b is same =
    let areas : area_number a.area ≡ area_number b.area = ap (λ (f : File). area_number f.area) same in
    let numbers : a.number ≡ b.number = ap (λ (f : File). f.number) same in
    let none : true ≡ false = grind (arith, nat_tests) in
    absurd (cc none)

pub is_it : (a b : File) → (a ≡ b) ⊎ (a ≢ b)
is_it a b = go (is_same a b) refl
  where
    go : (told : Bool) → is_same a b ≡ told → (a ≡ b) ⊎ (a ≢ b)
    go true is = inl (same_file a b is)
    go false is = inr (other_file a b is)

pub told_same : (a b : File) → a ≡ b → is_same a b ≡ true
told_same a b same = go (is_same a b) refl
  where
    go : (told : Bool) → is_same a b ≡ told → is_same a b ≡ true
    go true is = is
    go false is = absurd (other_file a b is same)

pub told_other : (a b : File) → a ≢ b → is_same a b ≡ false
told_other a b ne = go (is_same a b) refl
  where
    go : (told : Bool) → is_same a b ≡ told → is_same a b ≡ false
    go true is = absurd (ne (same_file a b is))
    go false is = is
