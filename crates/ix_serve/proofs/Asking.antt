-- What is asked of a store.
use Rattle.std.proofs.Common.{◌≡◌, ◌<◌, ◌≤◌, ◌+◌, ◌||◌, ◌∙◌, ℕ, Bool, true, false, get_or, List, [], ◌∷◌, ◌++◌, map, drop, length, refl}
use Rattle.std.proofs.Common.{sym, ap, append_assoc, codes, Option, Some, Result}
use Rattle.std.specs.List.{flat_map, list_any}
use Rattle.std.proofs.lemmas.List.{drop_all, drop_more, append-nil}
use Rattle.ix_disk.specs.declared.disk.Disk.{Ghosts}
use Rattle.ix_http.specs.declared.kinds.Ask.TheVariants as asks
use Rattle.ix_store.specs.Holding.{Represents}
use Rattle.ix_store.specs.declared.store.Store.{Store}
use Rattle.ix_serve.specs.Answer.{MayBe}
use Rattle.ix_serve.specs.Bodies.{value_text, values_text}
use Rattle.ix_serve.specs.Entries.{Entry}
use Rattle.ix_serve.specs.Kinds.{Kind}
use Rattle.ix_serve.specs.Serving.{Answers, IsListed, IsOpen, IsTold, outcome}
use Rattle.ix_serve.specs.declared.served.Served.{Served}
use Rattle.ix_serve.specs.declared.served.ServeFault.{ServeFault}
use Rattle.ix_serve.proofs.Answering.{idle}

-- ---- the values of an acks reply

-- those that are still to come, the first of them behind this
abbrev pub values_behind : List ℕ → List Bool → List ℕ
values_behind before [] = []
values_behind before (value ∷ values) = before ++ value_text value ++ values_behind (codes ",") values

with_commas : (values : List Bool) → values_behind (codes ",") values ≡ flat_map (λ (next : Bool). codes "," ++ value_text next) values
with_commas [] = refl
with_commas (value ∷ values) = ap (λ (l : List ℕ). (codes "," ++ value_text value) ++ l) (with_commas values)

pub all_values : (values : List Bool) → values_behind [] values ≡ values_text values
all_values [] = refl
all_values (value ∷ values) = ap (λ (l : List ℕ). value_text value ++ l) (with_commas values)

-- one value more
pub one_more : (body before next text : List ℕ) (value : Bool) (values : List Bool) → next ≡ (body ++ before) ++ text →
    text ≡ value_text value →
    next ++ values_behind (codes ",") values ≡ body ++ values_behind before (value ∷ values)
one_more body before next text value values is same =
    ap (λ (l : List ℕ). l ++ values_behind (codes ",") values) (is ∙ ap (λ (t : List ℕ). (body ++ before) ++ t) same
    ∙ append_assoc body before (value_text value))
    ∙ append_assoc body (before ++ value_text value) (values_behind (codes ",") values)

-- a listing, as the answer to its ask
pub listed_answers : {D : Type 0} (g : Ghosts D) {M : Type 0} (kind : Kind M) (e : Entry) (clean : Type 0)
    (result : Result Served ServeFault) (given given' : Option (List ℕ)) (store : Store M) (disk : D) → IsOpen result →
    store.run ≡ e.run → Represents g kind.fits kind.holds e.choose e.history e.base e.kept store disk →
    IsListed e clean result given given' →
    Answers g kind e (MayBe e (IsTold g disk) asks.Buckets result) true (outcome result clean given given') store disk disk
listed_answers g kind e clean result given given' store disk stays run hold is =
    idle g kind e (MayBe e (IsTold g disk) asks.Buckets result) true clean result given given' store disk (Some is.reply) is.may_be
    is.gave stays run hold

module _ (test : ℕ → Bool) (xs : List ℕ) (i d : ℕ) (inside : i < length xs) where
  -- the values behind one more
  pub values_next : (body before next text whole : List ℕ) → next ≡ (body ++ before) ++ text → text ≡ value_text (test (get_or xs i d)) →
      body ++ values_behind before (map test (drop i xs)) ≡ whole → next ++ values_behind (codes ",") (map test (drop (i + 1) xs)) ≡ whole
  values_next body before next text whole is same so =
      one_more body before next text (test (get_or xs i d)) (map test (drop (i + 1) xs)) is same
      ∙ ap (λ (l : List ℕ). body ++ values_behind before (map test l)) (sym (drop_more xs i d inside)) ∙ so

  -- one that fails the test is passed over
  pub any_next : (whole : Bool) → test (get_or xs i d) ≡ false → list_any test (drop i xs) ≡ whole → list_any test (drop (i + 1) xs) ≡ whole
  any_next whole fails so = sym (ap (λ (b : Bool). b || list_any test (drop (i + 1) xs)) fails)
      ∙ sym (ap (list_any test) (drop_more xs i d inside)) ∙ so

  -- one that passes it is found
  pub any_here : (whole : Bool) → test (get_or xs i d) ≡ true → list_any test (drop i xs) ≡ whole → true ≡ whole
  any_here whole passes so = sym (ap (λ (b : Bool). b || list_any test (drop (i + 1) xs)) passes)
      ∙ sym (ap (list_any test) (drop_more xs i d inside)) ∙ so

-- all were passed over
pub any_none : (test : ℕ → Bool) (xs : List ℕ) (i : ℕ) (whole : Bool) → length xs ≤ i → list_any test (drop i xs) ≡ whole → false ≡ whole
any_none test xs i whole past so = sym (ap (list_any test) (drop_all i xs past)) ∙ so

-- all values stand
pub values_end : (test : ℕ → Bool) (xs : List ℕ) (i : ℕ) (body before whole : List ℕ) → length xs ≤ i → body
    ++ values_behind before (map test (drop i xs)) ≡ whole → body ≡ whole
values_end test xs i body before whole past so =
    sym (append-nil body) ∙ sym (ap (λ (l : List ℕ). body ++ values_behind before (map test l)) (drop_all i xs past)) ∙ so
