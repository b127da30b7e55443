-- The heads of the requests, and what they ask.
use Rattle.std.proofs.Common.{◌≡◌, ◌≢◌, ◌<◌, ◌≤◌, ℕ, zero, suc, List, [], ◌∷◌, ◌++◌, ◌&&◌, ◌||◌, length, reverse, Bool, true, false, cond}
use Rattle.std.proofs.Common.{not, refl, sym, ap, ◌∙◌, subst, arith, codes, Option, Some, None}
use Rattle.std.specs.Prelude.{IsTrue, nat_le, nat_lt, slice_index, option_map, option_and_then}
use Rattle.std.specs.List.{AllByRecursion, list_all}
use Rattle.std.proofs.lemmas.Bool.Decides.{nat_tests}
use Rattle.std.proofs.lemmas.List.Elements.{All-nil, All-cons, All-from_recursion}
use Rattle.std.specs.Str.{IsUtf8, is_utf8}
use Rattle.std.proofs.lemmas.Str.{IsUtf8-from_ascii, is_utf8-from_IsUtf8}
use Rattle.serde_json.proofs.OnLiterals.{serde_json_on_literals}
use Rattle.serde_json.specs.Data.{Data}
use Rattle.serde_json.specs.Read.{read}
use Rattle.ix_base.specs.declared.events.ChannelMeta.{ChannelMeta}
use Rattle.httparse.specs.Grammar.{RequestHead, IsRequestHead, Field, IsField, crlf, print_request, is_token_byte, is_uri_byte}
use Rattle.httparse.specs.Grammar.{is_value_byte, is_ows, skip_ows, trim_ows, AllPass}
use Rattle.ix_heads.specs.Heads.{heading, HasHead}
use Rattle.ix_heads.specs.Lengths.{declared_length, ten_digits, length_in}
use Rattle.ix_heads.specs.declared.lengths.Declared.{Declared}
use Rattle.ix_heads.specs.declared.lengths.Declared.TheVariants.{Bytes}
use Rattle.ix_http.specs.Asked.{or_refused, asked_of}
use Rattle.ix_http.specs.Bodies.{json_of, meta_of}
use Rattle.ix_http.specs.Routes.{Route, blocks, end, channel as channel_of, route_of, channel_route, index_route, path_of}
use Rattle.ix_http.specs.Verdicts.{delimited_length, head_fault, is_good, is_wrong, is_missing, length_of, route_fault}
use Rattle.ix_http.specs.declared.kinds.HttpFault.TheVariants.{BadHead, BadBody, NoLength, Encoded, TooLong}
use Rattle.ix_http.proofs.AskLemmas.{judged_asked}
use Rattle.ix_model.specs.declared.commands.Command.TheVariants as commands
use Rattle.ix_http.specs.declared.kinds.Ask.TheVariants as asks
use Rattle.ix_http.specs.declared.kinds.Incoming.TheVariants as was
use Rattle.indexd_selftest.specs.Given.{AsksFor}
use Rattle.indexd_selftest.specs.History.{channel, meta}
use Rattle.indexd_selftest.specs.Lines.{digit}
use Rattle.indexd_selftest.specs.Requests.{begin_request, meta_body, block_request, end_request, four}
use Rattle.indexd_selftest.proofs.Digits.{digit_no_space, digit_is_value, four_value}
use Rattle.indexd_selftest.proofs.Reading.{reads}

-- ---- choices

if-true : {A : Type 0} (b : Bool) (x y : A) → b ≡ true → cond b x y ≡ x
if-true true x y e = refl
if-true false x y e = cc

if-false : {A : Type 0} (b : Bool) (x y : A) → b ≡ false → cond b x y ≡ y
if-false false x y e = refl
if-false true x y e = cc

-- ---- tests of each byte

both : (a b : Bool) → (a && b) ≡ true → (a ≡ true) × (b ≡ true)
both true true is = (refl, refl)
both true false is = cc
both false b is = cc

each_passes : (test : ℕ → Bool) (bytes : List ℕ) → list_all test bytes ≡ true → AllByRecursion (λ (b : ℕ). IsTrue (test b)) bytes
each_passes test [] is = tt
each_passes test (b ∷ bytes) is =
    let two = both (test b) (list_all test bytes) is in
    (two.0, each_passes test bytes two.1)

all_pass : (test : ℕ → Bool) (bytes : List ℕ) → list_all test bytes ≡ true → AllPass test bytes
all_pass test bytes is = All-from_recursion (λ (b : ℕ). IsTrue (test b)) bytes (each_passes test bytes is)

-- texts without other bytes than those of ASCII
low : (b : ℕ) → nat_lt b 128 ≡ true → b < 128
low b is = grind (arith, nat_tests)

each_low : (bytes : List ℕ) → list_all (λ (b : ℕ). nat_lt b 128) bytes ≡ true → (i : ℕ) → slice_index bytes i < 128
each_low [] is zero = omega arith
each_low [] is (suc i) = omega arith
each_low (b ∷ bytes) is zero = low b (both (nat_lt b 128) (list_all (λ (b : ℕ). nat_lt b 128) bytes) is).0
each_low (b ∷ bytes) is (suc i) = each_low bytes (both (nat_lt b 128) (list_all (λ (b : ℕ). nat_lt b 128) bytes) is).1 i

ascii_text : (bytes : List ℕ) → list_all (λ (b : ℕ). nat_lt b 128) bytes ≡ true → IsUtf8 bytes
ascii_text bytes is = IsUtf8-from_ascii bytes (each_low bytes is)

-- ---- the request of a block

abbrev block_field : ℕ → Field
block_field n = record { name = codes "Content-Length"; raw = 32 ∷ four n; end = crlf }

abbrev block_head : ℕ → RequestHead
block_head n = record {
  blank = [];
  method = codes "POST";
  target = codes "/channels/gen/blocks";
  minor = 1;
  line_end = crlf;
  fields = block_field n ∷ [];
  last = crlf;
}

block_prints : (block : List ℕ) → block_request block ≡ print_request (block_head (length block)) ++ block
unfolding print_request
block_prints block = refl

four_pass : (n : ℕ) → AllPass is_value_byte (32 ∷ four n)
four_pass n =
    All-from_recursion (λ (b : ℕ). IsTrue (is_value_byte b)) (32 ∷ four n)
    (refl, (digit_is_value 1000 n, (digit_is_value 100 n, (digit_is_value 10 n, (digit_is_value 1 n, tt)))))

block_is_head : (n : ℕ) → IsRequestHead (block_head n)
unfolding is_token_byte
block_is_head n = record {
  method = (omega arith, all_pass is_token_byte (codes "POST") refl);
  target = (omega arith, all_pass is_uri_byte (codes "/channels/gen/blocks") refl);
  target_text = ascii_text (codes "/channels/gen/blocks") refl;
  minor = omega arith;
  fields = All-cons IsField (block_field n) []
      (record { name = (omega arith, all_pass is_token_byte (codes "Content-Length") refl); raw = four_pass n }) (All-nil IsField);
}

skip_kept : (b : ℕ) (bs : List ℕ) → is_ows b ≡ false → skip_ows (b ∷ bs) ≡ b ∷ bs
skip_kept b bs is = if-false (is_ows b) (skip_ows bs) (b ∷ bs) is

trim_four : (a b c d : ℕ) → is_ows a ≡ false → is_ows d ≡ false → trim_ows (32 ∷ a ∷ b ∷ c ∷ d ∷ []) ≡ a ∷ b ∷ c ∷ d ∷ []
unfolding trim_ows
trim_four a b c d first last =
    ap (λ (l : List ℕ). reverse (skip_ows (reverse l))) (skip_kept a (b ∷ c ∷ d ∷ []) first)
    ∙ ap (λ (l : List ℕ). reverse l) (skip_kept d (c ∷ b ∷ a ∷ []) last)

block_length : (n : ℕ) → n < 10000 → declared_length (heading (block_head n)).lines ≡ Bytes n
block_length n below =
    ap (λ (v : List ℕ). length_in (ten_digits v))
    (trim_four (digit 1000 n) (digit 100 n) (digit 10 n) (digit 1 n) (digit_no_space 1000 n) (digit_no_space 1 n))
    ∙ ap length_in (four_value n below)

within_body : (n : ℕ) → n ≤ 4096 → nat_le n 1048576 ≡ true
within_body n most = grind (arith, nat_tests)

not_over : (n : ℕ) → n ≤ 4096 → nat_lt 1048576 n ≡ false
not_over n most = grind (arith, nat_tests)

block_delimited : (n : ℕ) → n ≤ 4096 → delimited_length (heading (block_head n)) ≡ Some n
unfolding delimited_length
block_delimited n most =
    let P : Declared → Type 0 = λ (d : Declared).
    cond ((nat_le 1 64 && not (is_wrong d)) && (not false && nat_le (length_of d) 1048576)) (Some (length_of d)) None ≡ Some n in
    subst P (sym (block_length n (omega (arith, most)))) (if-true (nat_le n 1048576) (Some n) None (within_body n most))

block_route : (n : ℕ) → route_of (path_of (block_head n).target) ≡ Some (blocks channel)
unfolding route_of channel_route index_route
block_route n = refl

block_sound : (n : ℕ) → n ≤ 4096 → head_fault (heading (block_head n)) ≡ None
unfolding head_fault
block_sound n most =
    ap (λ (r : Option Route). cond (not (is_good (heading (block_head n)))) (Some BadHead) (route_fault (heading (block_head n)) r))
    (block_route n)
    ∙ subst P (sym (block_length n (omega (arith, most)))) (if-false (nat_lt 1048576 n) (Some TooLong) None (not_over n most))
  where
    P : Declared → Type 0
    P d = cond (not (nat_le 1 64 && not (is_wrong d))) (Some BadHead)
        (cond (false || (true && is_missing d)) (Some NoLength)
        (cond false (Some Encoded) (cond (nat_lt 1048576 (length_of d)) (Some TooLong) None))) ≡ None

asked_block : (query block : List ℕ) → was.Asked (asks.Block channel block) ≡ asked_of (blocks channel) query block
unfolding asked_of
asked_block query block = refl

block_size : (n : ℕ) → length (print_request (block_head n)) ≤ 16384
unfolding print_request
block_size n = let is : length (print_request (block_head n)) ≡ 60 = refl in omega (arith, is)

block_has : (block : List ℕ) → length block ≤ 4096 → HasHead (block_request block) (block_head (length block)) block
block_has block most = record { reads = (block_is_head (length block), block_prints block); size = block_size (length block) }

no_bytes : (b : ℕ) (bs : List ℕ) → b ∷ bs ≢ []
no_bytes b bs is = cc

pub block_asks : (block : List ℕ) → length block ≤ 4096 → AsksFor (block_request block) 200 (commands.Block channel block None)
block_asks block most = record {
  ask = asks.Block channel block;
  change = refl;
  read = reads (block_request block) (block_head (length block)) block (asks.Block channel block) (no_bytes 80 _) (block_has block most)
      (block_delimited (length block) most)
      (sym (judged_asked (heading (block_head (length block))) (blocks channel) block _ (block_sound (length block) most)
      (block_route (length block)) (asked_block _ block)));
  good = refl;
  low = omega arith;
}

-- ---- the request that ends the channel

abbrev end_head : RequestHead
end_head = record {
  blank = [];
  method = codes "POST";
  target = codes "/channels/gen/end";
  minor = 1;
  line_end = crlf;
  fields = [];
  last = crlf;
}

end_prints : end_request ≡ print_request end_head ++ []
unfolding print_request
end_prints = refl

end_is_head : IsRequestHead end_head
unfolding is_token_byte
end_is_head = record {
  method = (omega arith, all_pass is_token_byte (codes "POST") refl);
  target = (omega arith, all_pass is_uri_byte (codes "/channels/gen/end") refl);
  target_text = ascii_text (codes "/channels/gen/end") refl;
  minor = omega arith;
  fields = All-nil IsField;
}

end_route : route_of (path_of end_head.target) ≡ Some (end channel)
unfolding route_of channel_route index_route
end_route = refl

end_delimited : delimited_length (heading end_head) ≡ Some 0
unfolding delimited_length
end_delimited = refl

end_sound : head_fault (heading end_head) ≡ None
unfolding head_fault route_of channel_route index_route
end_sound = refl

asked_end : (query body : List ℕ) → was.Asked (asks.End channel) ≡ asked_of (end channel) query body
unfolding asked_of
asked_end query body = refl

end_size : length (print_request end_head) ≤ 16384
unfolding print_request
end_size = let is : length (print_request end_head) ≡ 35 = refl in omega (arith, is)

end_has : HasHead end_request end_head []
end_has = record { reads = (end_is_head, end_prints); size = end_size }

pub end_asks : AsksFor end_request 200 (commands.End channel)
end_asks = record {
  ask = asks.End channel;
  change = refl;
  read = reads end_request end_head [] (asks.End channel) (no_bytes 80 _) end_has end_delimited
      (sym (judged_asked (heading end_head) (end channel) [] _ end_sound end_route (asked_end _ [])));
  good = refl;
  low = omega arith;
}

-- ---- the request that begins it

abbrev begin_field : Field
begin_field = record { name = codes "Content-Length"; raw = codes " 25"; end = crlf }

abbrev begin_head : RequestHead
begin_head = record {
  blank = [];
  method = codes "PUT";
  target = codes "/channels/gen";
  minor = 1;
  line_end = crlf;
  fields = begin_field ∷ [];
  last = crlf;
}

begin_prints : begin_request ≡ print_request begin_head ++ meta_body
unfolding print_request
begin_prints = refl

begin_is_head : IsRequestHead begin_head
unfolding is_token_byte
begin_is_head = record {
  method = (omega arith, all_pass is_token_byte (codes "PUT") refl);
  target = (omega arith, all_pass is_uri_byte (codes "/channels/gen") refl);
  target_text = ascii_text (codes "/channels/gen") refl;
  minor = omega arith;
  fields = All-cons IsField begin_field [] (record {
    name = (omega arith, all_pass is_token_byte (codes "Content-Length") refl);
    raw = all_pass is_value_byte (codes " 25") refl;
  }) (All-nil IsField);
}

begin_route : route_of (path_of begin_head.target) ≡ Some (channel_of channel)
unfolding route_of channel_route index_route
begin_route = refl

begin_delimited : delimited_length (heading begin_head) ≡ Some 25
unfolding delimited_length trim_ows
begin_delimited = refl

begin_sound : head_fault (heading begin_head) ≡ None
unfolding head_fault route_of channel_route index_route trim_ows
begin_sound = refl

begin_json : json_of meta_body ≡ read meta_body
unfolding json_of
begin_json = if-true (is_utf8 meta_body) (read meta_body) None (is_utf8-from_IsUtf8 meta_body (ascii_text meta_body refl))

asked_begin : (query : List ℕ) → was.Asked (asks.Begin channel meta) ≡ asked_of (channel_of channel) query meta_body
unfolding asked_of meta_of serde_json_on_literals
asked_begin query =
    ap (λ (o : Option Data). or_refused BadBody (option_map (λ (m : ChannelMeta). asks.Begin channel m) (option_and_then meta_of o)))
    (sym begin_json)

begin_size : length (print_request begin_head) ≤ 16384
unfolding print_request
begin_size = let is : length (print_request begin_head) ≡ 50 = refl in omega (arith, is)

begin_has : HasHead begin_request begin_head meta_body
begin_has = record { reads = (begin_is_head, begin_prints); size = begin_size }

pub begin_asks : AsksFor begin_request 201 (commands.Begin channel meta)
begin_asks = record {
  ask = asks.Begin channel meta;
  change = refl;
  read = reads begin_request begin_head meta_body (asks.Begin channel meta) (no_bytes 80 _) begin_has begin_delimited
      (sym (judged_asked (heading begin_head) (channel_of channel) meta_body _ begin_sound begin_route (asked_begin _)));
  good = refl;
  low = omega arith;
}
