-- Bytes of which a scan tells the part that they end in may become a head.
use Rattle.std.proofs.Common.{◌≡◌, ℕ, true, ◌⊎◌, inl, inr, List, [], ◌∷◌, ◌++◌, take, drop, codes, refl, sym, ap, ◌∙◌, subst, append_assoc}
use Rattle.std.proofs.Common.{append-nil, take-append-drop}
use Rattle.std.proofs.lemmas.List.{same_from_push}
use Rattle.std.proofs.lemmas.List.Elements.{All-nil, All-cons, All-append, All-same}
use Rattle.std.specs.Prelude.{All}
use Rattle.httparse.specs.Grammar.{LineEnd, crlf, lf, print_end, print_blank, print_version, is_token_byte, is_uri_byte, is_value_byte}
use Rattle.httparse.specs.Grammar.{AllPass, IsToken, HasNoRequest, MayBecomeRequest}
use Rattle.httparse.specs.Pieces as pieces
use Rattle.httparse.specs.Pieces.{Then, Completes, BlankLines, Newline, Text, Section, RequestStart, Bytes, Stops, is_newline, FieldLines}
use Rattle.httparse.proofs.PieceLemmas.{Stops_token, RequestStart_deterministic, Version_deterministic, Name_deterministic, front-append}
use Rattle.httparse.proofs.OpenLemmas.{Completes_first, Completes_next, BlankLines_after, Newline_after_cr, Version_after_bytes, Word_cut}
use Rattle.httparse.proofs.OpenLemmas.{letter_is_token, some_newline, some_text, some_section, FieldLine_of_row, Section_after_lines}
use Rattle.httparse.proofs.OpenLemmas.{Section_of_line, line_blank, line_method, ends_in_target, line_version, request_may}
use Rattle.httparse.proofs.OpenLemmas.{request_may_from_line}
use Rattle.ix_heads.specs.Heads.{IsSoon}
use Rattle.ix_heads.specs.Judging.{IsLineByte}
use Rattle.ix_heads.specs.Fronts.{Led, ToTarget, ToVersion, ToLine, ToValue, IsBlank, Fronts}
use Rattle.ix_heads.specs.declared.scan.Part.{Part}
use Rattle.ix_heads.specs.declared.scan.Part.TheVariants.{Blank, BlankReturn, Method, TargetStart, Target, WideTarget, Version, VersionEnd}
use Rattle.ix_heads.specs.declared.scan.Part.TheVariants.{VersionReturn, LineStart, LineReturn, Name, Value, ValueReturn, Stray}
use Rattle.ix_heads.proofs.FrontLemmas.{last_view, all-left}

-- ---- by part

may_blank : (bytes : List ℕ) → Led BlankLines bytes [] → MayBecomeRequest bytes
may_blank bytes x =
    request_may_from_line (inl (line_blank (record {
      more = [];
      tree = x.0;
      reads = λ rest. front-append bytes (print_blank x.0) [] rest x.1;
    })))

may_blank_return : (bytes : List ℕ) → Led BlankLines bytes (13 ∷ []) → MayBecomeRequest bytes
may_blank_return bytes x = request_may_from_line (inl (line_blank (BlankLines_after x.0 x.1 (Newline_after_cr refl))))

may_method : (bytes word : List ℕ) → Led BlankLines bytes word → IsToken word → MayBecomeRequest bytes
may_method bytes word x token =
    let stops = subst (Stops is_newline) (append-nil word) (Stops_token word [] token.0 token.1) in
    request_may_from_line (inl (line_method x.0 (x.1, stops) (Word_cut is_token_byte 32 65 letter_is_token token.1)))

may_target : (bytes target : List ℕ) → ToTarget bytes target → AllPass is_uri_byte target → MayBecomeRequest bytes
may_target bytes target (tree, (middle, blank, method)) all = inr (ends_in_target tree.0 tree.1 target blank method all)

may_version : (bytes rest : List ℕ) → ToVersion bytes rest → Completes (Then pieces.Version Newline) rest → MayBecomeRequest bytes
may_version bytes rest (tree, (middle, blank, (middle', method, target))) x =
    request_may_from_line (inl (line_version tree.0 tree.1.0 tree.1.1 blank method target x))

version_cut : (count : ℕ) → Completes (Bytes (codes "HTTP/1.")) (take count (codes "HTTP/1."))
version_cut count = record {
  more = drop count (codes "HTTP/1.");
  tree = tt;
  reads = λ rest. sym (append_assoc (take count (codes "HTTP/1.")) (drop count (codes "HTTP/1.")) rest)
      ∙ ap (λ t. t ++ rest) (take-append-drop count (codes "HTTP/1."));
}

may_line : (bytes rest : List ℕ) → ToLine bytes rest → Completes Section rest → MayBecomeRequest bytes
may_line bytes rest (tree, (middle, start, lines)) x =
    request_may (Completes_next RequestStart_deterministic {a = tree.0} start (Section_after_lines tree.1 lines x))

may_value : (bytes rest : List ℕ) → ToValue bytes rest → Completes Text rest → MayBecomeRequest bytes
may_value bytes rest (tree, (middle, start, (name, lines, word))) x =
    request_may (Completes_next RequestStart_deterministic {a = tree.0} start (Section_after_lines tree.1.0 lines
    (Section_of_line (inr (FieldLine_of_row (Completes_next Name_deterministic {a = tree.1.1} word x))))))

value_cut : (raw : List ℕ) → AllPass is_value_byte raw → Completes Text raw
value_cut raw all = record { more = 10 ∷ []; tree = (raw, lf); reads = λ rest. (all, refl) }

value_returned : (raw : List ℕ) → AllPass is_value_byte raw → Completes Text (raw ++ 13 ∷ [])
value_returned raw all = record { more = 10 ∷ []; tree = (raw, crlf); reads = λ rest. (all, append_assoc raw (13 ∷ []) (10 ∷ rest)) }

-- Bytes that end in a part of a head, and are no head, may become one.
pub fronts_may : (part : Part) (bytes : List ℕ) → HasNoRequest bytes → Fronts part bytes → MayBecomeRequest bytes
fronts_may Blank bytes none f = may_blank bytes f
fronts_may BlankReturn bytes none f = may_blank_return bytes f
fronts_may Method bytes none f = may_method bytes f.0 f.1 f.2
fronts_may TargetStart bytes none f = may_target bytes [] f (All-nil _)
fronts_may Target bytes none f = may_target bytes f.0 f.1 f.2.1
fronts_may WideTarget bytes none f = may_target bytes f.0 f.1 f.2.1
fronts_may (Version count) bytes none f = may_version bytes (take count (codes "HTTP/1.")) f.1
    (Completes_first (Version_after_bytes (version_cut count)) some_newline)
fronts_may VersionEnd bytes none f =
    may_version bytes (print_version f.0) f.2 (Completes_next Version_deterministic {a = f.0} (
      f.1,
      sym (append-nil (print_version f.0)),
    ) some_newline)
fronts_may VersionReturn bytes none f =
    may_version bytes (print_version f.0 ++ 13 ∷ []) f.2
    (Completes_next Version_deterministic {a = f.0} (f.1, refl) (Newline_after_cr refl))
fronts_may LineStart bytes none f = may_line bytes [] (f none) some_section
fronts_may LineReturn bytes none f = may_line bytes (13 ∷ []) f (Section_of_line (inl (Newline_after_cr refl)))
fronts_may Name bytes none f =
    may_line bytes f.0 f.1 (Section_of_line (inr (FieldLine_of_row
    (Completes_first (Word_cut is_token_byte 58 65 letter_is_token f.2.1) some_text))))
fronts_may Value bytes none f = may_value bytes f.0 f.1 (value_cut f.0 f.2)
fronts_may ValueReturn bytes none f = may_value bytes (f.0 ++ 13 ∷ []) f.1 (value_returned f.0 f.2)
fronts_may Stray bytes none f = f

-- ---- empty lines

end_bytes : (e : LineEnd) → All IsLineByte (print_end e)
end_bytes crlf = All-cons IsLineByte 13 (10 ∷ []) (inr refl) (All-cons IsLineByte 10 [] (inl refl) (All-nil _))
end_bytes lf = All-cons IsLineByte 10 [] (inl refl) (All-nil _)

ends_bytes : (ends : List LineEnd) → All IsLineByte (print_blank ends)
ends_bytes [] = All-nil _
ends_bytes (e ∷ ends) = All-append IsLineByte (print_end e) (print_blank ends) (end_bytes e) (ends_bytes ends)

-- what a scan says is blank is line ends alone
pub fronts_blank : (part : Part) (bytes : List ℕ) → IsBlank part → Fronts part bytes → All IsLineByte bytes
fronts_blank part bytes (inl is) f =
    let x = subst (λ p. Fronts p bytes) is f in
    All-same IsLineByte bytes (print_blank x.0 ++ []) x.1 (All-append IsLineByte (print_blank x.0) [] (ends_bytes x.0) (All-nil _))
fronts_blank part bytes (inr is) f =
    let x = subst (λ p. Fronts p bytes) is f in
    All-same IsLineByte bytes (print_blank x.0 ++ 13 ∷ []) x.1
    (All-append IsLineByte (print_blank x.0) (13 ∷ []) (ends_bytes x.0) (All-cons IsLineByte 13 [] (inr refl) (All-nil _)))

-- ---- a byte less

-- what may become a head may so without its last byte
may_before : (front : List ℕ) (b : ℕ) → MayBecomeRequest (front ++ b ∷ []) → MayBecomeRequest front
may_before front b (inl (more, h, reads)) = inl (b ∷ more, h, (reads.0, sym (append_assoc front (b ∷ []) more) ∙ reads.1))
may_before front b (inr (blank, method, target, token, all, is)) = by (last_view target)
  where
    by : (target ≡ []) ⊎ ((t : List ℕ) × (x : ℕ) × (target ≡ t ++ x ∷ [])) → MayBecomeRequest front
    by (inl none) =
        let whole : front ++ b ∷ [] ≡ (print_blank blank ++ method) ++ 32 ∷ [] = is
        ∙ ap (λ t. (print_blank blank ++ method) ++ 32 ∷ t) none in
        may_method front method (blank, (same_from_push front (print_blank blank ++ method) b 32 whole).0) token
    by (inr (t, x, some)) =
        let whole : front ++ b ∷ [] ≡ ((print_blank blank ++ method) ++ 32 ∷ t) ++ x ∷ [] =
        is ∙ ap (λ t. (print_blank blank ++ method) ++ 32 ∷ t) some ∙ sym (append_assoc (print_blank blank ++ method) (32 ∷ t) (x ∷ [])) in
        inr (
          blank,
          method,
          t,
          token,
          all-left (λ v. is_uri_byte v ≡ true) t (x ∷ []) (subst (AllPass is_uri_byte) some all),
          (same_from_push front ((print_blank blank ++ method) ++ 32 ∷ t) b x whole).0,
        )

pub soon_all : (bytes : List ℕ) → MayBecomeRequest bytes → IsSoon bytes
soon_all bytes may = λ front last is. may_before front last (subst MayBecomeRequest is may)

pub soon_last : (bytes front : List ℕ) (last : ℕ) → bytes ≡ front ++ last ∷ [] → MayBecomeRequest front → IsSoon bytes
soon_last bytes front last is may = λ front' last' is'. subst MayBecomeRequest (same_from_push _ _ _ _ (sym is ∙ is')).0 may
