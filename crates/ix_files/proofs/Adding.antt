-- Files of inputs stand behind others.
use Rattle.std.proofs.Common.{◌≡◌, List, [], ◌∷◌, ◌++◌, refl, sym, ap, ◌∙◌, subst, append_assoc}
use Rattle.std.specs.Prelude.{Contains}
use Rattle.std.specs.List.{AllByRecursion}
use Rattle.std.proofs.lemmas.List.{append-nil}
use Rattle.ix_monitor.specs.declared.inputs.Input.{Input}
use Rattle.ix_monitor.specs.declared.watched.Watched.{Watched}
use Rattle.ix_files.specs.Sought.{IsFileBy, IsFileOf, Adds}

all_more : (P : Watched → Type 0) (xs ys : List Watched) → AllByRecursion P xs → AllByRecursion P ys → AllByRecursion P (xs ++ ys)
all_more P [] ys one two = two
all_more P (x ∷ xs) ys one two = (one.0, all_more P xs ys one.1 two)

pub none_added : (input : Input) (files : List Watched) → Adds input files files
none_added input files = record { more = []; own = tt; behind = sym (append-nil files) }

pub one_added : (input : Input) (files files' : List Watched) (file : Watched) → IsFileBy input file → files' ≡ files ++ file ∷ [] →
    Adds input files files'
one_added input files files' file own is = record { more = file ∷ []; own = (own, tt); behind = is }

pub more_added : (input : Input) (a b c : List Watched) → Adds input a b → Adds input b c → Adds input a c
more_added input a b c one two = record {
  more = one.more ++ two.more;
  own = all_more (IsFileBy input) one.more two.more one.own two.own;
  behind = two.behind ∙ (ap (λ (l : List Watched). l ++ two.more) one.behind ∙ append_assoc a one.more two.more);
}

own_of : (inputs : List Input) (input : Input) (xs : List Watched) → Contains inputs input → AllByRecursion (IsFileBy input) xs →
    AllByRecursion (IsFileOf inputs) xs
own_of inputs input [] among all = tt
own_of inputs input (x ∷ xs) among all = (record { input = input; among = among; has = all.0 }, own_of inputs input xs among all.1)

pub own_more : (inputs : List Input) (input : Input) (files files' : List Watched) → Contains inputs input →
    AllByRecursion (IsFileOf inputs) files → Adds input files files' → AllByRecursion (IsFileOf inputs) files'
own_more inputs input files files' among old adds = subst (AllByRecursion (IsFileOf inputs)) (sym adds.behind)
    (all_more (IsFileOf inputs) files adds.more old (own_of inputs input adds.more among adds.own))
