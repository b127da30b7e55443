-- Laws on heads at the front of bytes that come one by one.
use Rattle.std.proofs.Common.{◌≡◌, ◌≢◌, ℕ, ◌+◌, ◌-◌, ◌*◌, ◌<◌, ◌≤◌, ◌⊎◌, List, [], ◌∷◌, ◌++◌, length, take, get_or, refl, sym, ap, ◌∙◌}
use Rattle.std.proofs.Common.{subst, inl, inr, arith, append_assoc, length-append}
use Rattle.std.proofs.lemmas.List.{same_from_push, take_more, length_push, append-nil, take_all}
use Rattle.std.proofs.lemmas.List.Elements.{All-nil, All-cons, All-head, All-tail, All-same}
use Rattle.std.proofs.lemmas.Bool.{cases_lt}
use Rattle.std.specs.Prelude.{All, Bool, false, IsTrue, Result, Ok, Err}
use Rattle.std.specs.List.{flat_map}
use Rattle.httparse.specs.declared.Error.{Error}
use Rattle.httparse.specs.declared.Error.TheVariants as error
use Rattle.httparse.specs.Outcome.{OnInvalid, OnTooManyHeaders}
use Rattle.httparse.specs.Spans.{RequestExceeds, RequestOverflows, IsRequestOf}
use Rattle.httparse.specs.declared.spans.HeaderSpan.{HeaderSpan}
use Rattle.httparse.specs.declared.spans.RequestSpans.{RequestSpans}
use Rattle.httparse.specs.Grammar.{LineEnd, crlf, lf, print_end, print_blank, print_version, print_field, print_section, Field, IsField}
use Rattle.httparse.specs.Grammar.{RequestHead, IsRequestHead, IsToken, is_token_byte, ReadsRequest, print_request, HasNoRequest}
use Rattle.httparse.specs.Grammar.{NeverHasRequest}
use Rattle.std.proofs.Math.Seq.{take-append-add}
use Rattle.std.proofs.lemmas.Grind.{common_steps}
use Rattle.ix_heads.specs.Judging.{EndsInEmptyLine, IsLineByte}
use Rattle.ix_heads.specs.Limits.{max_head, line_room, max_lines}

-- a list is empty or has a last element
pub last_view : {A : Type 0} (xs : List A) → (xs ≡ []) ⊎ ((front : List A) × (x : A) × (xs ≡ front ++ x ∷ []))
last_view [] = inl refl
last_view (x ∷ xs) = elim (last_view xs) [
  | inl none ↦ inr ([], x, ap (λ t. x ∷ t) none)
  | inr more ↦ inr (x ∷ more.0, more.1, ap (λ t. x ∷ t) more.2)
]

-- a line end ends in LF
pub end_ends_lf : (e : LineEnd) → (front : List ℕ) × (print_end e ≡ front ++ 10 ∷ [])
end_ends_lf crlf = (13 ∷ [], refl)
end_ends_lf lf = ([], refl)

pub ends_of : (a b c d : List ℕ) → c ≡ d ++ 10 ∷ [] → (front : List ℕ) × (a ++ (b ++ c) ≡ front ++ 10 ∷ [])
ends_of a b c d e = (
  (a ++ b) ++ d,
  ap (λ t. a ++ (b ++ t)) e ∙ sym (append_assoc a b (d ++ 10 ∷ []))
      ∙ sym (append_assoc (a ++ b) d (10 ∷ [])),
)

-- a head ends in LF
pub head_ends_lf : (h : RequestHead) → (front : List ℕ) × (print_request h ≡ front ++ 10 ∷ [])
unfolding print_request
head_ends_lf h =
    let last = end_ends_lf h.last in
    ends_of _ (flat_map print_field h.fields) (print_end h.last) last.0 last.1

-- a head that needs the last byte leaves nothing, where none was there before
pub rest_is_nil : (bytes : List ℕ) (b : ℕ) (h : RequestHead) (rest : List ℕ) → HasNoRequest bytes → ReadsRequest (bytes ++ b ∷ []) h rest →
    rest ≡ []
rest_is_nil bytes b h rest none reads = elim (last_view rest) [
  | inl empty ↦ empty
  | inr more ↦
      let whole = reads.1 ∙ ap (λ t. print_request h ++ t) more.2 ∙ sym (append_assoc (print_request h) more.0 (more.1 ∷ [])) in
      absurd (none h more.0 (reads.0, (same_from_push _ _ _ _ whole).0))
]

-- a byte that is no LF ends no head
pub no_head_more : (bytes : List ℕ) (b : ℕ) → b ≢ 10 → HasNoRequest bytes → HasNoRequest (bytes ++ b ∷ [])
no_head_more bytes b other none h rest reads =
    let empty = rest_is_nil bytes b h rest none reads in
    let last = head_ends_lf h in
    let whole = reads.1 ∙ ap (λ t. print_request h ++ t) empty ∙ append-nil (print_request h) ∙ last.1 in
    other (same_from_push _ _ _ _ whole).1

pub take_over : (xs ys : List ℕ) (n : ℕ) → length xs ≤ n → take n (xs ++ ys) ≡ xs ++ take (n - length xs) ys
take_over xs ys n fits =
    let whole : n ≡ length xs + (n - length xs) = omega arith in
    ap (λ k. take k (xs ++ ys)) whole ∙ take-append-add xs ys (n - length xs)

-- a head that is longer than its front
pub longer_than_front : (bytes : List ℕ) (n : ℕ) → HasNoRequest (take n bytes) → (h : RequestHead) (rest : List ℕ) →
    ReadsRequest bytes h rest → n < length (print_request h)
longer_than_front bytes n none h rest reads = elim (cases_lt n (length (print_request h))) [
  | inl more ↦ more
  | inr fits ↦
      let cut : take n bytes ≡ print_request h ++ take (n - length (print_request h)) rest = ap (take n) reads.1
      ∙ take_over (print_request h) rest n fits in
      absurd (none h _ (reads.0, cut))
]

-- a field line has three bytes or more
pub field_len : (f : Field) → IsField f → 3 ≤ length (print_field f)
field_len f is = end_len f.name f.raw (print_end f.end) is.name.0 (some_end f.end)
  where
    some_end : (e : LineEnd) → 1 ≤ length (print_end e)
    some_end crlf = omega arith
    some_end lf = omega arith

    end_len : (a b c : List ℕ) → 0 < length a → 1 ≤ length c → 3 ≤ length (a ++ 58 ∷ b ++ c)
    end_len a b c x y = grind (arith, common_steps)

pub fields_len : (fs : List Field) → All IsField fs → 3 * length fs ≤ length (flat_map print_field fs)
fields_len [] is = omega arith
fields_len (f ∷ fs) is =
    let first = field_len f (All-head IsField f fs is) in
    let others = fields_len fs (All-tail IsField f fs is) in
    let sum = length-append (print_field f) (flat_map print_field fs) in
    omega (arith, first, others, sum)

pub lines_fit : (h : RequestHead) → IsRequestHead h → 3 * length h.fields ≤ length (print_request h)
unfolding print_request
lines_fit h is = let fields = fields_len h.fields is.fields in behind _ (flat_map print_field h.fields) (print_end h.last) _ fields
  where
    behind : (a b c : List ℕ) (n : ℕ) → n ≤ length b → n ≤ length (a ++ (b ++ c))
    behind a b c n h = grind (arith, common_steps)

-- an error at a front within the limit means that no continuation makes a head
pub err_is_never : {A : Type 0} (r : Result A Error) (e : Error) (buf : List ℕ) (room : ℕ) → r ≡ Err e → length buf ≤ max_head →
    line_room ≤ room
    → OnInvalid r (NeverHasRequest buf) → OnTooManyHeaders r (RequestExceeds room buf) → NeverHasRequest buf
err_is_never (Ok a) e buf room is fits lines invalid many = cc
err_is_never (Err error.TooManyHeaders) e buf room is fits lines invalid many =
    let found = many refl in
    let lines_of = lines_fit found.3 found.4.0 in
    let text = ap length (found.4.1 ∙ append-nil (print_request found.3)) in
    let size = ap length found.2 in
    let joined = length-append found.0 (10 ∷ []) in
    let split = length-append found.0 found.1 in
    absurd (omega (arith, lines_of, text, size, joined, split, found.5, fits, lines))
err_is_never (Err e') e buf room is fits lines invalid many = invalid (λ same. cc)

-- nothing is no head
pub no_head_empty : HasNoRequest []
no_head_empty h rest reads =
    let last = head_ends_lf h in
    let text = ap length (reads.1 ∙ ap (λ t. t ++ rest) last.1) in
    let front = length-append (last.0 ++ 10 ∷ []) rest in
    let more = length_push last.0 10 in
    omega (arith, text, front, more)

-- ---- the end of a head

-- lines behind one that ends in LF end in LF
lines_end_lf : (fields : List Field) (front : List ℕ) → (more : List ℕ)
    × ((front ++ 10 ∷ []) ++ flat_map print_field fields ≡ more ++ 10 ∷ [])
lines_end_lf [] front = (front, append-nil (front ++ 10 ∷ []))
lines_end_lf (f ∷ fields) front =
    let last = end_ends_lf f.end in
    let line = ends_of (front ++ 10 ∷ []) (f.name ++ 58 ∷ f.raw) (print_end f.end) last.0 last.1 in
    let more = lines_end_lf fields line.0 in (
      more.0,
      sym (append_assoc (front ++ 10 ∷ []) (print_field f) (flat_map print_field fields))
          ∙ ap (λ t. t ++ flat_map print_field fields) line.1 ∙ more.1,
    )

-- a head ends in an empty line behind another one
pub head_ends_empty : (h : RequestHead) → EndsInEmptyLine (print_request h)
unfolding print_request
head_ends_empty h =
    let last = end_ends_lf h.line_end in
    let start = ends_of [] (print_blank h.blank ++ h.method ++ 32 ∷ h.target ++ 32
    ∷ print_version h.minor) (print_end h.line_end) last.0 last.1 in
    let lines = lines_end_lf h.fields start.0 in (
      lines.0,
      h.last,
      sym (append_assoc _ (flat_map print_field h.fields) (print_end h.last))
          ∙ ap (λ t. t ++ print_end h.last) (ap (λ t. t ++ flat_map print_field h.fields) start.1 ∙ lines.1)
          ∙ append_assoc lines.0 (10 ∷ []) (print_end h.last),
    )

-- ---- bytes of which all but the last one are no head

last_split : (bytes : List ℕ) → 0 < length bytes → bytes ≡ take (length bytes - 1) bytes ++ get_or bytes (length bytes - 1) 0 ∷ []
last_split bytes some =
    let one : length bytes - 1 + 1 ≡ length bytes = omega (arith, some) in
    sym (take_all (length bytes) bytes (omega arith)) ∙ sym (ap (λ n. take n bytes) one)
    ∙ take_more bytes (length bytes - 1) 0 (omega (arith, some))

-- a head of them is all of them
pub all_taken : (bytes : List ℕ) → 0 < length bytes → HasNoRequest (take (length bytes - 1) bytes) → (h : RequestHead) (rest : List ℕ) →
    ReadsRequest bytes h rest → rest ≡ []
all_taken bytes some none h rest reads =
    rest_is_nil (take (length bytes - 1) bytes) (get_or bytes (length bytes - 1) 0) h rest none (
      reads.0,
      sym (last_split bytes some)
          ∙ reads.1,
    )

pub is_all : (bytes : List ℕ) → 0 < length bytes → HasNoRequest (take (length bytes - 1) bytes) → (h : RequestHead) (rest : List ℕ) →
    ReadsRequest bytes h rest → bytes ≡ print_request h
is_all bytes some none h rest reads =
    reads.1 ∙ ap (λ t. print_request h ++ t) (all_taken bytes some none h rest reads) ∙ append-nil (print_request h)

-- they are none where no empty line ends them
pub open_without_empty : (bytes : List ℕ) → 0 < length bytes → HasNoRequest (take (length bytes - 1) bytes) → (EndsInEmptyLine bytes → ⊥) →
    HasNoRequest bytes
open_without_empty bytes some none other h rest reads =
    let end = head_ends_empty h in
    other (end.0, end.1, is_all bytes some none h rest reads ∙ end.2)

-- nor where the last one is no LF
pub open_without_lf : (bytes : List ℕ) → 0 < length bytes → HasNoRequest (take (length bytes - 1) bytes) →
    get_or bytes (length bytes - 1) 0 ≢ 10 → HasNoRequest bytes
open_without_lf bytes some none other =
    let P : List ℕ → Type 0 = λ t. HasNoRequest t in
    subst P (sym (last_split bytes some)) (no_head_more (take (length bytes - 1) bytes) (get_or bytes (length bytes - 1) 0) other none)

-- ---- bytes of line ends alone

pub all-right : {X : Type 0} (P : X → Type 0) (xs ys : List X) → All P (xs ++ ys) → All P ys
all-right P [] ys all = all
all-right P (x ∷ xs) ys all = all-right P xs ys (All-tail P x (xs ++ ys) all)

pub all-left : {X : Type 0} (P : X → Type 0) (xs ys : List X) → All P (xs ++ ys) → All P xs
all-left P [] ys all = All-nil P
all-left P (x ∷ xs) ys all = All-cons P x xs (All-head P x (xs ++ ys) all) (all-left P xs ys (All-tail P x (xs ++ ys) all))

no-token : (b : ℕ) → IsLineByte b → is_token_byte b ≡ false
unfolding is_token_byte
no-token b (inl e) = ap is_token_byte e
no-token b (inr e) = ap is_token_byte e

true-false : {b : Bool} → IsTrue b → b ≡ false → ⊥
true-false is none = cc

no-method : (method : List ℕ) → IsToken method → All IsLineByte method → ⊥
no-method [] token all = omega (arith, token.0)
no-method (b ∷ method) token all =
    true-false (All-head (λ x. IsTrue (is_token_byte x)) b method token.1) (no-token b (All-head IsLineByte b method all))

no-line : (bytes blank method target version end section rest : List ℕ) → bytes ≡ blank ++ method ++ target ++ version ++ end ++ section
    ++ rest
    → IsToken method → All IsLineByte bytes → ⊥
no-line bytes blank method target version end section rest is token all =
    let P = IsLineByte in
    let whole = All-same P _ bytes (sym is) all in
    let line = all-left P _ version (all-left P _ end (all-left P _ section (all-left P _ rest whole))) in
    no-method method token (all-right P blank method (all-left P (blank ++ method) target line))

-- they are no head
pub blank_no_head : (bytes : List ℕ) → All IsLineByte bytes → HasNoRequest bytes
unfolding print_request
blank_no_head bytes all h rest reads =
    no-line bytes (print_blank h.blank) h.method (32 ∷ h.target) (32
    ∷ print_version h.minor) (print_end h.line_end) (print_section h.fields h.last) rest reads.1 reads.0.method all

-- the spans of a head of them end with them
pub len_is_all : (bytes : List ℕ) (headers : List HeaderSpan) (spans : RequestSpans) → 0 < length bytes →
    HasNoRequest (take (length bytes - 1) bytes)
    → (found : IsRequestOf bytes headers spans) → spans.len ≡ length bytes
len_is_all bytes headers spans some none found =
    found.1.len ∙ ap length (sym (is_all bytes some none found.0 _ found.1.reads))

-- a head of them with too many lines
pub crowded_all : (bytes : List ℕ) → 0 < length bytes → HasNoRequest (take (length bytes - 1) bytes) → RequestOverflows max_lines bytes
    → (h : RequestHead) (rest : List ℕ) → ReadsRequest bytes h rest → ReadsRequest bytes h [] × (max_lines < length h.fields)
crowded_all bytes some none over h rest reads =
    let empty = all_taken bytes some none h rest reads in (
      (reads.0, reads.1 ∙ ap (λ t. print_request h ++ t) empty),
      over [] h rest (reads.0, append-nil bytes ∙ reads.1),
    )
