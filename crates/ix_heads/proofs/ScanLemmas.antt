-- Steps of the scan: a byte more of a part of a head, or the first one of the next part.
use Rattle.std.proofs.Common.{◌≡◌, ℕ, suc, ◌+◌, ◌<◌, ◌≤◌, ◌⊎◌, inl, inr, true, List, [], ◌∷◌, ◌++◌, take, get_or, codes, refl, sym, ap}
use Rattle.std.proofs.Common.{◌∙◌, subst, arith, append_assoc, append-nil}
use Rattle.std.proofs.lemmas.List.{length_push, take_more}
use Rattle.std.proofs.lemmas.List.Elements.{All-nil, All-push, All-head, All-tail}
use Rattle.std.proofs.lemmas.Str.{IsUtf8-from_ascii}
use Rattle.std.proofs.lemmas.Str.Ascii.{IsAscii-nil, IsAscii-cons}
use Rattle.std.specs.Str.{IsAscii, IsUtf8}
use Rattle.httparse.specs.Grammar.{LineEnd, crlf, lf, print_end, print_blank, print_version, Field, is_token_byte, is_uri_byte}
use Rattle.httparse.specs.Grammar.{is_value_byte, AllPass, IsToken, HasNoRequest, MayBecomeRequest}
use Rattle.httparse.specs.Pieces as pieces
use Rattle.httparse.specs.Pieces.{Piece, Then, BlankLines, FieldLines, RequestStart, Word}
use Rattle.httparse.proofs.GrammarLemmas.{request_tree, request_pieces, request_from_pieces}
use Rattle.httparse.proofs.PieceLemmas.{IsDeterministic, Then_deterministic, Blank_deterministic, Method_deterministic}
use Rattle.httparse.proofs.PieceLemmas.{Target_deterministic, Name_deterministic, RequestStart_deterministic, Word_deterministic}
use Rattle.httparse.proofs.PieceLemmas.{FieldLines-append, FieldLines_push, Stops_token, front-append}
use Rattle.httparse.proofs.ReadLemmas.{blank_more, FieldLine_done}
use Rattle.ix_heads.specs.declared.scan.Part.{Part}
use Rattle.ix_heads.specs.declared.scan.Part.TheVariants.{Blank, BlankReturn, Method, TargetStart, Target, WideTarget, Version, VersionEnd}
use Rattle.ix_heads.specs.declared.scan.Part.TheVariants.{VersionReturn, LineStart, LineReturn, Name, Value, ValueReturn, Stray}
use Rattle.ix_heads.specs.declared.scan.Scan.{Scan}
use Rattle.ix_heads.specs.Fronts.{Led, ToTarget, ToVersion, ToLine, ToValue, IsTarget, Fronts, Grows}

-- ---- steps

grows : (part to : Part) (b : ℕ) (s : Scan) → s.part ≡ to →
    ((bytes : List ℕ) → HasNoRequest bytes → Fronts part bytes → Fronts to (bytes ++ b ∷ [])) → Grows part b s
grows part to b s is step = record { grown = λ bytes none f may. subst (λ p. Fronts p (bytes ++ b ∷ [])) (sym is) (step bytes none f) }

grows_asked : (part to : Part) (b : ℕ) (s : Scan) → s.part ≡ to → s.due ≡ true
    → ((bytes : List ℕ) → Fronts part bytes → MayBecomeRequest (bytes ++ b ∷ []) → Fronts to (bytes ++ b ∷ [])) → Grows part b s
grows_asked part to b s is due step =
    record { grown = λ bytes none f may. subst (λ p. Fronts p (bytes ++ b ∷ [])) (sym is) (step bytes f (may due)) }

-- behind a stray byte a parse tells all
pub strays : (part : Part) (b : ℕ) (s : Scan) → s.part ≡ Stray → s.due ≡ true → Grows part b s
strays part b s is due = grows_asked part Stray b s is due (λ bytes f may. may)

-- ---- pieces with more behind them

led_more : {A : Type 0} {G : Piece A} → IsDeterministic G → (bytes rest more : List ℕ) → Led G bytes rest →
    Led G (bytes ++ more) (rest ++ more)
led_more det bytes rest more x = (x.0, det.append x.0 bytes rest more x.1)

blank_behind : (bytes rest more : List ℕ) → Led BlankLines bytes rest → Led BlankLines (bytes ++ more) (rest ++ more)
blank_behind bytes rest more x = (x.0, front-append bytes (print_blank x.0) rest more x.1)

target_behind : (bytes rest more : List ℕ) → ToTarget bytes rest → ToTarget (bytes ++ more) (rest ++ more)
target_behind = led_more (Then_deterministic Blank_deterministic Method_deterministic)

version_behind : (bytes rest more : List ℕ) → ToVersion bytes rest → ToVersion (bytes ++ more) (rest ++ more)
version_behind = led_more (Then_deterministic Blank_deterministic (Then_deterministic Method_deterministic Target_deterministic))

line_behind : (bytes rest more : List ℕ) → ToLine bytes rest → ToLine (bytes ++ more) (rest ++ more)
line_behind bytes rest more (tree, (middle, start, lines)) = (
  tree,
  (
    middle ++ more,
    RequestStart_deterministic.append tree.0 bytes middle more start,
    FieldLines-append tree.1 middle rest more lines,
  ),
)

value_behind : (bytes rest more : List ℕ) → ToValue bytes rest → ToValue (bytes ++ more) (rest ++ more)
value_behind bytes rest more (tree, (middle, start, (name, lines, word))) = (
  tree,
  (
    middle ++ more,
    RequestStart_deterministic.append tree.0 bytes middle more start,
    (name ++ more, FieldLines-append tree.1.0 middle name more lines, Name_deterministic.append tree.1.1 name rest more word),
  ),
)

-- ---- empty lines

blank_ended : (bytes : List ℕ) (e : LineEnd) → Led BlankLines bytes (print_end e) → Led BlankLines bytes []
blank_ended bytes e x = (x.0 ++ e ∷ [], blank_more x.0 e bytes (print_end e) [] x.1 (sym (append-nil (print_end e))))

pub blank_line : (b : ℕ) (s : Scan) → b ≡ 10 → s.part ≡ Blank → Grows Blank b s
blank_line b s byte is = grows Blank Blank b s is (λ bytes none f.
    subst (λ b. Led BlankLines (bytes ++ b ∷ []) []) (sym byte) (blank_ended (bytes ++ 10 ∷ []) lf (blank_behind bytes [] (10 ∷ []) f)))

pub blank_return : (b : ℕ) (s : Scan) → b ≡ 13 → s.part ≡ BlankReturn → Grows Blank b s
blank_return b s byte is = grows Blank BlankReturn b s is
    (λ bytes none f. subst (λ b. Led BlankLines (bytes ++ b ∷ []) (13 ∷ [])) (sym byte) (blank_behind bytes [] (13 ∷ []) f))

pub blank_returned : (b : ℕ) (s : Scan) → b ≡ 10 → s.part ≡ Blank → Grows BlankReturn b s
blank_returned b s byte is =
    grows BlankReturn Blank b s is (λ bytes none f. subst (λ b. Led BlankLines (bytes ++ b ∷ []) []) (sym byte)
    (blank_ended (bytes ++ 10 ∷ []) crlf (blank_behind bytes (13 ∷ []) (10 ∷ []) f)))

-- ---- the method

token_more : (word : List ℕ) (b : ℕ) → AllPass is_token_byte word → is_token_byte b ≡ true → IsToken (word ++ b ∷ [])
token_more word b all passes = (omega (arith, length_push word b), All-push (λ v. is_token_byte v ≡ true) word b all passes)

pub method_begun : (b : ℕ) (s : Scan) → is_token_byte b ≡ true → s.part ≡ Method → Grows Blank b s
method_begun b s passes is = grows Blank Method b s is (λ bytes none f. (
  b ∷ [],
  blank_behind bytes [] (b ∷ []) f,
  token_more [] b (All-nil _) passes,
))

pub method_more : (b : ℕ) (s : Scan) → is_token_byte b ≡ true → s.part ≡ Method → Grows Method b s
method_more b s passes is =
    grows Method Method b s is (λ bytes none f. (f.0 ++ b ∷ [], blank_behind bytes f.0 (b ∷ []) f.1, token_more f.0 b f.2.1 passes))

method_done : (bytes word : List ℕ) → Led BlankLines bytes word → IsToken word → ToTarget (bytes ++ 32 ∷ []) []
method_done bytes word x token =
    let more = front-append bytes (print_blank x.0) word (32 ∷ []) x.1 in
    ((x.0, word), (word ++ 32 ∷ [], (more, Stops_token word (32 ∷ []) token.0 token.1), (token.0, token.1, refl)))

pub method_ended : (b : ℕ) (s : Scan) → b ≡ 32 → s.part ≡ TargetStart → Grows Method b s
method_ended b s byte is = grows Method TargetStart b s is
    (λ bytes none f. subst (λ b. ToTarget (bytes ++ b ∷ []) []) (sym byte) (method_done bytes f.0 f.1 f.2))

-- ---- the target

target_more : (target : List ℕ) (b : ℕ) → AllPass is_uri_byte target → is_uri_byte b ≡ true → IsTarget (target ++ b ∷ [])
target_more target b all passes = (omega (arith, length_push target b), All-push (λ v. is_uri_byte v ≡ true) target b all passes)

ascii_more : (target : List ℕ) (b : ℕ) → IsAscii target → b < 128 → IsAscii (target ++ b ∷ [])
ascii_more [] b all low = IsAscii-cons b [] low IsAscii-nil
ascii_more (x ∷ target) b all low = IsAscii-cons x (target ++ b ∷ []) (all 0) (ascii_more target b (λ i. all (suc i)) low)

pub target_begun : (b : ℕ) (s : Scan) → is_uri_byte b ≡ true → b < 128 → s.part ≡ Target → Grows TargetStart b s
target_begun b s passes low is =
    grows TargetStart Target b s is (λ bytes none f. (
      b ∷ [],
      target_behind bytes [] (b ∷ []) f,
      target_more [] b (All-nil _) passes,
      ascii_more [] b IsAscii-nil low,
    ))

pub wide_begun : (b : ℕ) (s : Scan) → is_uri_byte b ≡ true → s.part ≡ WideTarget → Grows TargetStart b s
wide_begun b s passes is =
    grows TargetStart WideTarget b s is (λ bytes none f. (b ∷ [], target_behind bytes [] (b ∷ []) f, target_more [] b (All-nil _) passes))

pub target_on : (b : ℕ) (s : Scan) → is_uri_byte b ≡ true → b < 128 → s.part ≡ Target → Grows Target b s
target_on b s passes low is =
    grows Target Target b s is (λ bytes none f. (
      f.0 ++ b ∷ [],
      target_behind bytes f.0 (b ∷ []) f.1,
      target_more f.0 b f.2.1 passes,
      ascii_more f.0 b f.3 low,
    ))

pub target_widened : (b : ℕ) (s : Scan) → is_uri_byte b ≡ true → s.part ≡ WideTarget → Grows Target b s
target_widened b s passes is =
    grows Target WideTarget b s is (λ bytes none f. (f.0 ++ b ∷ [], target_behind bytes f.0 (b ∷ []) f.1, target_more f.0 b f.2.1 passes))

pub wide_on : (b : ℕ) (s : Scan) → is_uri_byte b ≡ true → s.part ≡ WideTarget → Grows WideTarget b s
wide_on b s passes is =
    grows WideTarget WideTarget b s is (λ bytes none f. (
      f.0 ++ b ∷ [],
      target_behind bytes f.0 (b ∷ []) f.1,
      target_more f.0 b f.2.1 passes,
    ))

target_done : (bytes target : List ℕ) → ToTarget bytes target → IsTarget target → IsUtf8 target → ToVersion (bytes ++ 32 ∷ []) []
target_done bytes target x is text = by (target_behind bytes target (32 ∷ []) x)
  where
    by : ToTarget (bytes ++ 32 ∷ []) (target ++ 32 ∷ []) → ToVersion (bytes ++ 32 ∷ []) []
    by (tree, (middle, blank, method)) =
        ((tree.0, (tree.1, target)), (middle, blank, (target ++ 32 ∷ [], method, ((is.0, is.1, refl), text))))

pub target_ended : (b : ℕ) (s : Scan) → b ≡ 32 → s.part ≡ Version 0 → Grows Target b s
target_ended b s byte is =
    grows Target (Version 0) b s is (λ bytes none f. (
      omega arith,
      subst (λ b. ToVersion (bytes ++ b ∷ []) []) (sym byte) (target_done bytes f.0 f.1 f.2 (IsUtf8-from_ascii f.0 f.3)),
    ))

no_space : (target : List ℕ) → AllPass is_uri_byte (target ++ 32 ∷ []) → ⊥
no_space [] all = let passes : is_uri_byte 32 ≡ true = All-head (λ v. is_uri_byte v ≡ true) 32 [] all in cc
no_space (b ∷ target) all = no_space target (All-tail (λ v. is_uri_byte v ≡ true) b (target ++ 32 ∷ []) all)

-- a target behind which a head may go on is UTF-8
wide_text : (bytes target : List ℕ) → ToTarget bytes target → IsTarget target → MayBecomeRequest (bytes ++ 32 ∷ []) → IsUtf8 target
wide_text bytes target x is (inl (more, h, reads)) =
    let ours = target_behind (bytes ++ 32 ∷ []) (target ++ 32 ∷ []) more (target_behind bytes target (32 ∷ []) x) in
    let theirs = request_pieces ((bytes ++ 32 ∷ []) ++ more) h [] reads in
    by ours (request_tree h).0 theirs.0 theirs.1
  where
    by : ToTarget ((bytes ++ 32 ∷ []) ++ more) ((target ++ 32 ∷ []) ++ more)
        → (t : List LineEnd × (List ℕ × (List ℕ × (ℕ × LineEnd)))) (rest : List ℕ) → RequestStart t ((bytes ++ 32 ∷ []) ++ more) rest →
        IsUtf8 target
    by (tree, (middle, blank, method)) t rest (middle', blank', (middle'', method', (rest', word, other))) =
        let same = Blank_deterministic.unique tree.0 t.0 _ middle middle' blank blank' in
        let same' = Method_deterministic.unique tree.1 t.1.0 middle' _ middle''
        (subst (λ m. pieces.Method tree.1 m ((target ++ 32 ∷ []) ++ more)) same.1 method) method' in
        let text = sym same'.1 ∙ append_assoc target (32 ∷ []) more in
        let whole = (Word_deterministic is_uri_byte 32 refl).unique t.1.1.0 target middle'' _ more word.0 (is.0, is.1, text) in
        subst IsUtf8 whole.0 word.1
wide_text bytes target x is (inr (blank, method, other, token, all, text)) =
    absurd (no_space target (subst (AllPass is_uri_byte) (by (target_behind bytes target (32 ∷ []) x)) all))
  where
    by : ToTarget (bytes ++ 32 ∷ []) (target ++ 32 ∷ []) → other ≡ target ++ 32 ∷ []
    by (tree, (middle, blanks, word)) =
        let whole : bytes ++ 32 ∷ [] ≡ print_blank blank ++ (method ++ 32 ∷ other) = text
        ∙ append_assoc (print_blank blank) method (32 ∷ other) in
        let same = Blank_deterministic.unique tree.0 blank _ middle (method ++ 32 ∷ other) blanks (
          whole,
          Stops_token method (32 ∷ other) token.0 token.1,
        ) in
        let same' = Method_deterministic.unique tree.1 method middle _ other word (token.0, token.1, same.1) in
        sym same'.1

pub wide_ended : (b : ℕ) (s : Scan) → b ≡ 32 → s.part ≡ Version 0 → s.due ≡ true → Grows WideTarget b s
wide_ended b s byte is due =
    grows_asked WideTarget (Version 0) b s is due (λ bytes f may. (
      omega arith,
      subst (λ b. MayBecomeRequest (bytes ++ b ∷ []) →
          ToVersion (bytes ++ b ∷ []) []) (sym byte) (λ may. target_done bytes f.0 f.1 f.2 (wide_text bytes f.0 f.1 f.2 may)) may,
    ))

-- ---- the version

pub version_on : (count b : ℕ) (s : Scan) → count < 7 → b ≡ get_or (codes "HTTP/1.") count 0 → s.part ≡ Version (count + 1) →
    Grows (Version count) b s
version_on count b s few byte is =
    grows (Version count) (Version (count + 1)) b s is
    (λ bytes none f. (
      omega (arith, few),
      subst (ToVersion (bytes ++ b ∷ [])) (ap (λ b. take count (codes "HTTP/1.") ++ b ∷ []) byte
          ∙ sym (take_more (codes "HTTP/1.") count 0 few)) (version_behind bytes _ (b ∷ []) f.1),
    ))

pub version_done : (count b : ℕ) (s : Scan) → count ≡ 7 → (b ≡ 48) ⊎ (b ≡ 49) → s.part ≡ VersionEnd → Grows (Version count) b s
version_done count b s all digit is = grows (Version count) VersionEnd b s is
    (λ bytes none f. by digit bytes (subst (λ n. ToVersion bytes (take n (codes "HTTP/1."))) all f.1))
  where
    by : (b ≡ 48) ⊎ (b ≡ 49) → (bytes : List ℕ) → ToVersion bytes (codes "HTTP/1.") → Fronts VersionEnd (bytes ++ b ∷ [])
    by (inl e) bytes x = (
      0,
      omega arith,
      subst (λ b. ToVersion (bytes ++ b ∷ []) (print_version 0)) (sym e)
          (version_behind bytes (codes "HTTP/1.") (48 ∷ []) x),
    )
    by (inr e) bytes x = (
      1,
      omega arith,
      subst (λ b. ToVersion (bytes ++ b ∷ []) (print_version 1)) (sym e)
          (version_behind bytes (codes "HTTP/1.") (49 ∷ []) x),
    )

line_started : (bytes : List ℕ) (minor : ℕ) (e : LineEnd) → minor ≤ 1 → ToVersion bytes (print_version minor ++ print_end e) →
    ToLine bytes []
line_started bytes minor e fits (tree, (middle, blank, (middle', method, target))) = (
  ((tree.0, (tree.1.0, (tree.1.1, (minor, e)))), []),
  ([], (middle, blank, (middle', method, (_, target, (print_end e, (fits, refl), sym (append-nil (print_end e)))))), (All-nil _, refl)),
)

pub version_ended : (b : ℕ) (s : Scan) → b ≡ 10 → s.part ≡ LineStart → Grows VersionEnd b s
version_ended b s byte is =
    grows VersionEnd LineStart b s is (λ bytes none f none'.
    subst (λ b. ToLine (bytes ++ b ∷ []) []) (sym byte)
    (line_started (bytes ++ 10 ∷ []) f.0 lf f.1 (version_behind bytes (print_version f.0) (10 ∷ []) f.2)))

pub version_return : (b : ℕ) (s : Scan) → b ≡ 13 → s.part ≡ VersionReturn → Grows VersionEnd b s
version_return b s byte is =
    grows VersionEnd VersionReturn b s is (λ bytes none f. (
      f.0,
      f.1,
      subst (λ b. ToVersion (bytes ++ b ∷ []) (print_version f.0 ++ 13 ∷ [])) (sym byte)
          (version_behind bytes (print_version f.0) (13 ∷ []) f.2),
    ))

pub version_returned : (b : ℕ) (s : Scan) → b ≡ 10 → s.part ≡ LineStart → Grows VersionReturn b s
version_returned b s byte is =
    grows VersionReturn LineStart b s is (λ bytes none f none'.
    subst (λ b. ToLine (bytes ++ b ∷ []) []) (sym byte)
    (line_started (bytes ++ 10 ∷ []) f.0 crlf f.1 (version_behind bytes (print_version f.0 ++ 13 ∷ []) (10 ∷ []) f.2)))

-- ---- header lines

-- an empty line makes a head
head_done : (bytes : List ℕ) (e : LineEnd) → ToLine bytes (print_end e) → HasNoRequest bytes → ⊥
head_done bytes e (tree, (middle, start, lines)) none =
    none _ [] (request_from_pieces bytes (tree.0, (tree.1, e)) [] (middle, start, (lines.0, lines.1 ∙ sym (append-nil _))))

pub line_done : (b : ℕ) (s : Scan) → b ≡ 10 → s.part ≡ LineStart → Grows LineStart b s
line_done b s byte is =
    grows LineStart LineStart b s is (λ bytes none f none'.
    absurd (head_done (bytes ++ 10 ∷ []) lf (line_behind bytes [] (10 ∷ []) (f none))
    (subst (λ b. HasNoRequest (bytes ++ b ∷ [])) byte none')))

pub line_return : (b : ℕ) (s : Scan) → b ≡ 13 → s.part ≡ LineReturn → Grows LineStart b s
line_return b s byte is = grows LineStart LineReturn b s is
    (λ bytes none f. subst (λ b. ToLine (bytes ++ b ∷ []) (13 ∷ [])) (sym byte) (line_behind bytes [] (13 ∷ []) (f none)))

pub line_returned : (b : ℕ) (s : Scan) → b ≡ 10 → s.part ≡ LineStart → Grows LineReturn b s
line_returned b s byte is =
    grows LineReturn LineStart b s is (λ bytes none f none'.
    absurd (head_done (bytes ++ 10 ∷ []) crlf (line_behind bytes (13 ∷ []) (10 ∷ []) f)
    (subst (λ b. HasNoRequest (bytes ++ b ∷ [])) byte none')))

pub name_begun : (b : ℕ) (s : Scan) → is_token_byte b ≡ true → s.part ≡ Name → Grows LineStart b s
name_begun b s passes is = grows LineStart Name b s is (λ bytes none f. (
  b ∷ [],
  line_behind bytes [] (b ∷ []) (f none),
  token_more [] b (All-nil _) passes,
))

pub name_on : (b : ℕ) (s : Scan) → is_token_byte b ≡ true → s.part ≡ Name → Grows Name b s
name_on b s passes is = grows Name Name b s is (λ bytes none f. (
  f.0 ++ b ∷ [],
  line_behind bytes f.0 (b ∷ []) f.1,
  token_more f.0 b f.2.1 passes,
))

name_done : (bytes word : List ℕ) → ToLine bytes word → IsToken word → ToValue (bytes ++ 58 ∷ []) []
name_done bytes word x token = by (line_behind bytes word (58 ∷ []) x)
  where
    by : ToLine (bytes ++ 58 ∷ []) (word ++ 58 ∷ []) → ToValue (bytes ++ 58 ∷ []) []
    by (tree, (middle, start, lines)) = ((tree.0, (tree.1, word)), (middle, start, (word ++ 58 ∷ [], lines, (token.0, token.1, refl))))

pub name_ended : (b : ℕ) (s : Scan) → b ≡ 58 → s.part ≡ Value → Grows Name b s
name_ended b s byte is = grows Name Value b s is (λ bytes none f. (
  [],
  subst (λ b. ToValue (bytes ++ b ∷ []) []) (sym byte) (name_done bytes f.0 f.1 f.2),
  All-nil _,
))

pub value_on : (b : ℕ) (s : Scan) → is_value_byte b ≡ true → s.part ≡ Value → Grows Value b s
value_on b s passes is =
    grows Value Value b s is (λ bytes none f. (
      f.0 ++ b ∷ [],
      value_behind bytes f.0 (b ∷ []) f.1,
      All-push (λ v. is_value_byte v ≡ true) f.0 b f.2 passes,
    ))

value_done : (bytes raw : List ℕ) (e : LineEnd) → AllPass is_value_byte raw → ToValue bytes (raw ++ print_end e) → ToLine bytes []
value_done bytes raw e all (tree, (middle, start, (name, lines, word))) =
    let field : Field = record { name = tree.1.1; raw = raw; end = e } in
    let line = FieldLine_done tree.1.1 raw e name (raw ++ print_end e) [] word (all, ap (λ t. raw ++ t) (sym (append-nil (print_end e)))) in
    ((tree.0, tree.1.0 ++ field ∷ []), (middle, start, FieldLines_push tree.1.0 field middle name [] lines line))

pub value_ended : (b : ℕ) (s : Scan) → b ≡ 10 → s.part ≡ LineStart → Grows Value b s
value_ended b s byte is =
    grows Value LineStart b s is (λ bytes none f none'.
    subst (λ b. ToLine (bytes ++ b ∷ []) []) (sym byte)
    (value_done (bytes ++ 10 ∷ []) f.0 lf f.2 (value_behind bytes f.0 (10 ∷ []) f.1)))

pub value_return : (b : ℕ) (s : Scan) → b ≡ 13 → s.part ≡ ValueReturn → Grows Value b s
value_return b s byte is =
    grows Value ValueReturn b s is (λ bytes none f. (
      f.0,
      subst (λ b. ToValue (bytes ++ b ∷ []) (f.0 ++ 13 ∷ [])) (sym byte) (value_behind bytes f.0 (13 ∷ []) f.1),
      f.2,
    ))

pub value_returned : (b : ℕ) (s : Scan) → b ≡ 10 → s.part ≡ LineStart → Grows ValueReturn b s
value_returned b s byte is =
    grows ValueReturn LineStart b s is (λ bytes none f none'. subst (λ b. ToLine (bytes ++ b ∷ []) []) (sym byte)
    (value_done (bytes ++ 10 ∷ []) f.0 crlf f.2 (subst (ToValue (bytes ++ 10 ∷ [])) (append_assoc f.0 (13 ∷ []) (10 ∷ []))
    (value_behind bytes (f.0 ++ 13 ∷ []) (10 ∷ []) f.1))))
