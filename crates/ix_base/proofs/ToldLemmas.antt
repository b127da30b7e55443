-- Laws of what is told.
use Rattle.std.proofs.Common.{◌≡◌, ℕ, List, [], ◌++◌, take, drop, refl, sym, ◌∙◌, ap, append_assoc, Result, Ok, Err}
use Rattle.std.specs.Prelude.{Option, Some, None, OnOk, OnErr}
use Rattle.std.proofs.lemmas.List.{take-append-drop, append-nil}
use Rattle.ix_base.specs.Told.{Told, IsFrontOf, Wrote, Began, HasWritten, HasBegun}

-- a fact that holds whatever was answered
pub on_err_always : {T E P : Type 0} (result : Result T E) → P → OnErr result P
on_err_always (Ok x) p = tt
on_err_always (Err e) p = p

-- some of the bytes, or none of them
pub began-some : (i : ℕ) (bytes old new : List ℕ) → new ≡ old ++ take i bytes → Began bytes old new
began-some i bytes old new is =
    record { part = take i bytes; is_front = record { rest = drop i bytes; whole_is = sym (take-append-drop i bytes) }; written = is }

pub began-none : (bytes old new : List ℕ) → new ≡ old → Began bytes old new
began-none bytes old new is =
    record { part = []; is_front = record { rest = bytes; whole_is = refl }; written = is ∙ sym (append-nil old) }

pub began-either : {T E : Type 0} (result : Result T E) (i : ℕ) (bytes old new : List ℕ) →
    OnOk result (new ≡ old ++ take i bytes) → OnErr result (new ≡ old) → Began bytes old new
began-either (Ok x) i bytes old new is same = began-some i bytes old new is
began-either (Err e) i bytes old new is same = began-none bytes old new same

-- a front of a front
pub front-front : {a b c : List ℕ} → IsFrontOf a b → IsFrontOf b c → IsFrontOf a c
front-front {a} {b} {c} p q =
    record { rest = p.rest ++ q.rest; whole_is = q.whole_is ∙ ap (λ l. l ++ q.rest) p.whole_is ∙ append_assoc a p.rest q.rest }

told-wrote-wrote : (a b : List ℕ) (x y z : Option (List ℕ)) → Told (Wrote a) x y → Told (Wrote b) y z → Told (Wrote (a ++ b)) x z
told-wrote-wrote a b None None None p q = tt
told-wrote-wrote a b None None (Some z) p q = absurd q
told-wrote-wrote a b None (Some y) z p q = absurd p
told-wrote-wrote a b (Some x) None z p q = absurd p
told-wrote-wrote a b (Some x) (Some y) None p q = absurd q
told-wrote-wrote a b (Some x) (Some y) (Some z) p q = q ∙ ap (λ l. l ++ b) p ∙ append_assoc x a b

told-wrote-began : (a b : List ℕ) (x y z : Option (List ℕ)) → Told (Wrote a) x y → Told (Began b) y z → Told (Began (a ++ b)) x z
told-wrote-began a b None None None p q = tt
told-wrote-began a b None None (Some z) p q = absurd q
told-wrote-began a b None (Some y) z p q = absurd p
told-wrote-began a b (Some x) None z p q = absurd p
told-wrote-began a b (Some x) (Some y) None p q = absurd q
told-wrote-began a b (Some x) (Some y) (Some z) p q =
    record {
      part = a ++ q.part;
      is_front = record {
        rest = q.is_front.rest;
        whole_is = ap (λ l. a ++ l) q.is_front.whole_is
            ∙ sym (append_assoc a q.part q.is_front.rest);
      };
      written = q.written ∙ ap (λ l. l ++ q.part) p ∙ append_assoc x a q.part;
    }

told-began-more : (a b : List ℕ) (x y : Option (List ℕ)) → Told (Began a) x y → Told (Began (a ++ b)) x y
told-began-more a b None None p = tt
told-began-more a b None (Some y) p = absurd p
told-began-more a b (Some x) None p = absurd p
told-began-more a b (Some x) (Some y) p =
    record {
      part = p.part;
      is_front = record {
        rest = p.is_front.rest ++ b;
        whole_is = ap (λ l. l ++ b) p.is_front.whole_is ∙ append_assoc p.part p.is_front.rest b;
      };
      written = p.written;
    }

told-wrote-is-begun : (a : List ℕ) (x y : Option (List ℕ)) → Told (Wrote a) x y → Told (Began a) x y
told-wrote-is-begun a None None p = tt
told-wrote-is-begun a None (Some y) p = absurd p
told-wrote-is-begun a (Some x) None p = absurd p
told-wrote-is-begun a (Some x) (Some y) p =
    record { part = a; is_front = record { rest = []; whole_is = sym (append-nil a) }; written = p }

told-wrote-nothing : (x : Option (List ℕ)) → Told (Wrote []) x x
told-wrote-nothing None = tt
told-wrote-nothing (Some x) = sym (append-nil x)

told-began-nothing : (a : List ℕ) (x : Option (List ℕ)) → Told (Began a) x x
told-began-nothing a None = tt
told-began-nothing a (Some x) = began-none a x x refl

-- one piece behind the other
pub then_written : {a b : List ℕ} {x y z : Option (List ℕ)} → HasWritten a x y → HasWritten b y z → HasWritten (a ++ b) x z
then_written {a} {b} {x} {y} {z} p q = record { told = told-wrote-wrote a b x y z p.told q.told }

-- a piece, and then a front of another
pub then_begun : {a b : List ℕ} {x y z : Option (List ℕ)} → HasWritten a x y → HasBegun b y z → HasBegun (a ++ b) x z
then_begun {a} {b} {x} {y} {z} p q = record { told = told-wrote-began a b x y z p.told q.told }

-- a front of a piece is a front of the piece with another behind it
pub begun_of_more : {a : List ℕ} {x y : Option (List ℕ)} (b : List ℕ) → HasBegun a x y → HasBegun (a ++ b) x y
begun_of_more {a} {x} {y} b p = record { told = told-began-more a b x y p.told }

pub written_is_begun : {a : List ℕ} {x y : Option (List ℕ)} → HasWritten a x y → HasBegun a x y
written_is_begun {a} {x} {y} p = record { told = told-wrote-is-begun a x y p.told }

pub nothing_written : (x : Option (List ℕ)) → HasWritten [] x x
nothing_written x = record { told = told-wrote-nothing x }

pub nothing_begun : (a : List ℕ) (x : Option (List ℕ)) → HasBegun a x x
nothing_begun a x = record { told = told-began-nothing a x }

pub ruleset puts = (then_written, then_begun, begun_of_more, nothing_written, on_err_always)
