-- What an export comes to.
use Rattle.std.proofs.Common.{◌≡◌, ◌∙◌, ℕ, Bool, true, false, cond, List, [], ◌++◌, length, refl, sym, ap, subst, inl, inr, Some, arith}
use Rattle.std.proofs.Common.{length-append}
use Rattle.std.specs.Prelude.{nat_le}
use Rattle.std.proofs.lemmas.Bool.Decides.{nat_tests}
use Rattle.ix_base.specs.Told.{HasWritten, HasBegun}
use Rattle.ix_base.specs.declared.events.Range.{Range}
use Rattle.ix_export.specs.Lines.{text}
use Rattle.ix_http.specs.declared.kinds.HttpFault.TheVariants as http
use Rattle.ix_model.specs.declared.answers.Refusal.TheVariants as refusals
use Rattle.ix_store.specs.Exporting.{is_seen, exported}
use Rattle.ix_serve.specs.Entries.{Entry, state}
use Rattle.ix_serve.specs.Exports.{reply_of, MayReply}
use Rattle.ix_serve.specs.Replies.{plain, unread, refused, lines_reply, events_reply, most_lines}
use Rattle.ix_serve.specs.declared.events.Exported.{Exported}
use Rattle.ix_serve.specs.declared.events.Exported.TheVariants as exports

-- what is written behind nothing
written_all : (bytes lines : List ℕ) → HasWritten lines (Some []) (Some bytes) → bytes ≡ lines
written_all bytes lines is = is.told

over_longer : (bytes rest : List ℕ) → nat_le (length bytes) most_lines ≡ false → nat_le (length (bytes ++ rest)) most_lines ≡ false
over_longer bytes rest over = let e = length-append bytes rest in grind (arith, nat_tests)

begun_over : (bytes lines : List ℕ) → HasBegun lines (Some []) (Some bytes) → nat_le (length bytes) most_lines ≡ false →
    nat_le (length lines) most_lines ≡ false
begun_over bytes lines is over =
    let front = is.told.is_front in
    let same : bytes ≡ is.told.part = is.told.written in
    subst (λ (l : List ℕ). nat_le (length l) most_lines ≡ false) (sym front.whole_is)
    (over_longer is.told.part front.rest (subst (λ (l : List ℕ). nat_le (length l) most_lines ≡ false) same over))

reply_over : (lines : List ℕ) → nat_le (length lines) most_lines ≡ false → unread http.TooLong ≡ lines_reply lines
reply_over lines over = sym (ap (λ (b : Bool). cond b (plain lines) (unread http.TooLong)) over)

-- all lines of an index that is seen were kept, or one byte more than a reply has
reply_kept : (bytes : List ℕ) (b : Bool) → reply_of (cond b (exports.Lines bytes) exports.TooLong) ≡ cond b (plain bytes)
    (unread http.TooLong)
reply_kept bytes true = refl
reply_kept bytes false = refl

pub of_kept : (told : Type 0) (e : Entry) (index : List ℕ) (range : Range) (start bytes : List ℕ) (x : Exported) → start ≡ [] →
    x ≡ cond (nat_le (length bytes) most_lines) (exports.Lines bytes) exports.TooLong → is_seen (state e) index ≡ true →
    (told → HasWritten (text range (exported (state e) index)) (Some start) (Some bytes)) → MayReply told e index range (reply_of x)
of_kept told e index range start bytes x none is seen known =
    let same : reply_of x ≡ lines_reply bytes = ap reply_of is ∙ reply_kept bytes (nat_le (length bytes) most_lines) in
    inr (record {
      lines = bytes;
      is = same ∙ sym (ap (λ (b : Bool). events_reply b bytes) seen);
      known = λ t. same ∙ ap lines_reply (written_all bytes _
          (subst (λ (l : List ℕ). HasWritten (text range (exported (state e) index)) (Some l) (Some bytes)) none (known t)))
          ∙ sym (ap (λ (b : Bool). events_reply b (text range (exported (state e) index))) seen);
    })

-- they could not all be kept
pub of_front : (told : Type 0) (e : Entry) (index : List ℕ) (range : Range) (start bytes : List ℕ) (x : Exported) → start ≡ [] →
    x ≡ cond (nat_le (length bytes) most_lines) (exports.Refused refusals.NoMemory) exports.TooLong → is_seen (state e) index ≡ true →
    (told → HasBegun (text range (exported (state e) index)) (Some start) (Some bytes)) → MayReply told e index range (reply_of x)
of_front told e index range start bytes x none is seen known = by (nat_le (length bytes) most_lines) refl is where
  by : (b : Bool) → nat_le (length bytes) most_lines ≡ b → x ≡ cond b (exports.Refused refusals.NoMemory) exports.TooLong →
      MayReply told e index range (reply_of x)
  by true few is = inl (ap reply_of is)
  by false over is = inr (record {
    lines = bytes;
    is = ap reply_of is ∙ reply_over bytes over ∙ sym (ap (λ (b : Bool). events_reply b bytes) seen);
    known = λ t. ap reply_of is ∙ reply_over _ (begun_over bytes _
        (subst (λ (l : List ℕ). HasBegun (text range (exported (state e) index)) (Some l) (Some bytes)) none (known t)) over)
        ∙ sym (ap (λ (b : Bool). events_reply b (text range (exported (state e) index))) seen);
  })

-- the index is not seen
pub of_unseen : (told : Type 0) (e : Entry) (index : List ℕ) (range : Range) → is_seen (state e) index ≡ false →
    MayReply told e index range (refused refusals.UnknownIndex)
of_unseen told e index range unseen = inr (record {
  lines = [];
  is = sym (ap (λ (b : Bool). events_reply b []) unseen);
  known = λ t. sym (ap (λ (b : Bool). events_reply b (text range (exported (state e) index))) unseen);
})

pub seen_by : (seen : Bool) → (seen ≡ false → ⊥) → seen ≡ true
seen_by true not = refl
seen_by false not = absurd (not refl)
