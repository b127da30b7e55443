-- What is no method is none of the service's.
use Rattle.std.proofs.Common.{◌≡◌, ◌≤◌, ℕ, List, length, Bool, true, false, refl, sym, ap, ◌∙◌, arith, codes, subst}
use Rattle.std.specs.Prelude.{Result, Ok, Err, IsOk}
use Rattle.std.specs.Str.{bytes_eq}
use Rattle.std.proofs.lemmas.Slice.Eq.{bytes_eq-Decides}
use Rattle.http_header.specs.Token.{IsToken, AllPass, is_token_byte}
use Rattle.http_header.proofs.TokenLemmas.{AllPass-from_test}
use Rattle.ix_http.specs.Routes.{Route, channel, blocks, end, acks, buckets, events}
use Rattle.ix_http.specs.Verdicts.{method_of}

ok_err : {A E : Type 0} (r : Result A E) (e : E) → r ≡ Err e → IsOk r → ⊥
ok_err (Ok a) e is ok = cc
ok_err (Err x) e is ok = cc

-- bytes that are refused are not a short token
pub refused_other : {A E : Type 0} (asked own : List ℕ) (r : Result A E) (e : E) → r ≡ Err e → (IsToken asked → length asked ≤ 15 → IsOk r)
    → IsToken own → length own ≤ 15 → bytes_eq asked own ≡ false
refused_other asked own r e is taken token short = by (bytes_eq asked own) refl
  where
    by : (v : Bool) → bytes_eq asked own ≡ v → bytes_eq asked own ≡ false
    by true q =
        let same = (bytes_eq-Decides asked own).0 q in
        absurd (ok_err r e is (taken (subst IsToken (sym same) token) (let n = ap length same in omega (arith, n, short))))
    by false q = q

-- the method of a route is a short token
pub own_token : (r : Route) → IsToken (method_of r) × (length (method_of r) ≤ 15)
unfolding is_token_byte
own_token (channel name) = ((omega arith, AllPass-from_test is_token_byte (codes "PUT") refl), omega arith)
own_token (blocks name) = ((omega arith, AllPass-from_test is_token_byte (codes "POST") refl), omega arith)
own_token (end name) = ((omega arith, AllPass-from_test is_token_byte (codes "POST") refl), omega arith)
own_token acks = ((omega arith, AllPass-from_test is_token_byte (codes "POST") refl), omega arith)
own_token buckets = ((omega arith, AllPass-from_test is_token_byte (codes "GET") refl), omega arith)
own_token (events name) = ((omega arith, AllPass-from_test is_token_byte (codes "GET") refl), omega arith)
