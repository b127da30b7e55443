-- A head that does not say where its request ends has a fault.
use Rattle.std.proofs.Common.{◌≡◌, ℕ, ◌≤◌, Bool, true, false, cond, not, ◌&&◌, ◌||◌, Option, Some, None, refl, arith, lit≤}
use Rattle.std.specs.Prelude.{nat_lt, nat_le, codes}
use Rattle.std.specs.Str.{bytes_eq}
use Rattle.std.proofs.lemmas.Bool.Decides.{nat_tests}
use Rattle.ix_heads.specs.Heads.{Heading}
use Rattle.ix_heads.specs.Lines.{has_other}
use Rattle.ix_heads.specs.Lengths.{declared_length}
use Rattle.ix_http.specs.declared.kinds.HttpFault.{HttpFault}
use Rattle.ix_http.specs.declared.kinds.HttpFault.TheVariants.{BadHead, WrongMethod, NoLength, Encoded, TooLong}
use Rattle.ix_http.specs.Routes.{Route, channel, blocks, end, acks, buckets, events, route_of, path_of}
use Rattle.ix_http.specs.Verdicts.{method_of, limit_of, needs_length, is_missing, body_length, is_good, is_chunked, delimited_length}
use Rattle.ix_http.specs.Verdicts.{route_fault, head_fault}

without : (b : Bool) (x : Option HttpFault) (f : HttpFault) → cond b (Some f) x ≡ None → (b ≡ false) × (x ≡ None)
without true x f h = cc
without false x f h = (refl, h)

not_false : (b : Bool) → not b ≡ false → b ≡ true
not_false true h = refl
not_false false h = cc

or_false : (a b : Bool) → (a || b) ≡ false → a ≡ false
or_false true b h = cc
or_false false b h = refl

limit_most : (r : Route) → limit_of r ≤ 1048576
limit_most (channel name) = lit≤ tt
limit_most (blocks name) = lit≤ tt
limit_most (end name) = lit≤ tt
limit_most acks = lit≤ tt
limit_most buckets = lit≤ tt
limit_most (events name) = lit≤ tt

within : (n limit : ℕ) → limit ≤ 1048576 → nat_lt limit n ≡ false → nat_le n 1048576 ≡ true
within n limit most less = grind (arith, nat_tests)

closed : (a b c : Bool) (n : ℕ) → a ≡ true → b ≡ false → c ≡ true → cond (a && (not b && c)) (Some n) None ≡ None → ⊥
closed true false true n x y z h = cc
closed true true c n x y z h = cc
closed false b c n x y z h = cc
closed true false false n x y z h = cc

pub open_faulty : (h : Heading) → delimited_length h ≡ None → head_fault h ≡ None → ⊥
unfolding delimited_length head_fault
open_faulty h unsaid none = by (route_of (path_of h.target)) good.1
  where
    good : (not (is_good h) ≡ false) × (route_fault h (route_of (path_of h.target)) ≡ None)
    good = without (not (is_good h)) (route_fault h (route_of (path_of h.target))) BadHead none

    by : (r : Option Route) → route_fault h r ≡ None → ⊥
    by None e = cc
    by (Some r) e =
        let method = without (not (bytes_eq h.method (method_of r))) _ WrongMethod e in
        let length = without (is_chunked h || (needs_length r && is_missing (declared_length h.lines))) _ NoLength method.1 in
        let encoded = without (has_other (codes "content-encoding") (codes "identity") h.lines) _ Encoded length.1 in
        let size = without (nat_lt (limit_of r) (body_length h)) _ TooLong encoded.1 in
        closed (is_good h) (is_chunked h) (nat_le (body_length h) 1048576) (body_length h) (not_false (is_good h) good.0)
        (or_false (is_chunked h) (needs_length r && is_missing (declared_length h.lines)) length.0)
        (within (body_length h) (limit_of r) (limit_most r) size.0) unsaid
