-- Where runs end, and what is known of their commands.
use Rattle.std.proofs.Common.{◌≡◌, ◌≤◌, ◌<◌, ◌∙◌, ◌++◌, ℕ, zero, suc, Bool, true, false, List, [], ◌∷◌, length, take, drop, refl, sym, ap}
use Rattle.std.proofs.Common.{subst, inl, inr, ⊎_elim, Option, Some, None, Result, Ok, Err, arith, append_assoc, append-nil, length-append}
use Rattle.std.specs.Prelude.{nat_eq, nat_lt, if◌then◌else◌, ◌&&◌, ◌||◌, ◌==◌, not, map}
use Rattle.std.specs.List.{list_any}
use Rattle.std.proofs.lemmas.Bool.Decides.{nat_tests}
use Rattle.std.proofs.lemmas.List.{take-take}
use Rattle.std.proofs.lemmas.List.Sums.{sum_by-take-le}
use Rattle.std.proofs.lemmas.Bool.{false≢true}
use Rattle.ix_manifest.specs.Book.{NamedItems}
use Rattle.ix_disk.specs.Image.{Image}
use Rattle.ix_disk.specs.Moments.{Always}
use Rattle.ix_disk.specs.declared.disk.Disk.{Ghosts}
use Rattle.ix_disk.proofs.Runs.{always_on, always_weaker}
use Rattle.ix_heads.specs.declared.faults.LinkFault.TheVariants as link
use Rattle.ix_http.specs.declared.kinds.Ask.{Ask}
use Rattle.ix_http.specs.declared.kinds.Ask.TheVariants as asks
use Rattle.ix_http.specs.declared.kinds.HttpFault.{HttpFault}
use Rattle.ix_http.specs.declared.kinds.HttpFault.TheVariants as http
use Rattle.ix_http.specs.declared.kinds.Incoming.TheVariants as was
use Rattle.ix_model.specs.declared.commands.TimedCommand.{TimedCommand}
use Rattle.ix_model.proofs.Named.{by_test}
use Rattle.ix_store.proofs.Counted.{is_below, take_whole}
use Rattle.ix_store.specs.Counting.{numbers}
use Rattle.ix_serve.specs.Answer.{Answer, Found, MayBe, Says, declined, is_whole, says}
use Rattle.ix_serve.specs.Entries.{Entry, committed, drawn, is_acked, is_pending}
use Rattle.ix_serve.specs.Prefixes.{StandsIn}
use Rattle.ix_serve.specs.Serving.{ComesOf, HasStatus, IsReplied, IsTold, still_open}
use Rattle.ix_serve.specs.Replies.{Reply, acks, http_status, unread, no_memory}
use Rattle.ix_serve.specs.declared.served.Served.{Served}
use Rattle.ix_serve.specs.declared.served.Served.TheVariants as served
use Rattle.ix_serve.specs.declared.served.ServeFault.{ServeFault}
use Rattle.ix_serve.specs.declared.served.ServeFault.TheVariants as fault
use Rattle.ix_sessions.specs.Feeding.{Came, Coming, Start, Turn, IsTurn, AreSafe, Has, HasKnown, Lasts, disk_after, end_of, entry_of}
use Rattle.ix_sessions.specs.Feeding.{history_after, known}
use Rattle.ix_sessions.specs.Reading.{end_by}
use Rattle.ix_sessions.specs.declared.feed.Fed.{Fed}
use Rattle.ix_sessions.specs.declared.feed.Fed.TheVariants as fed
use Rattle.ix_sessions.proofs.Growing.{longer, known_least}

-- ---- where a run ends

-- each answer to what was asked is a reply
replies : (e : Entry) (told : Type 0) (ask : Ask) (result : Result Served ServeFault) (a : Answer) → MayBe e told ask result a → (r : Reply)
    × (a.reply ≡ Some r)
replies e told (asks.Begin channel meta) result a (inl is) = (_, ap (λ (x : Answer). x.reply) is.1)
replies e told (asks.Begin channel meta) result a (inr is) = (_, ap (λ (x : Answer). x.reply) is.2)
replies e told (asks.Block channel bytes) result a (inl is) = (_, ap (λ (x : Answer). x.reply) is.1)
replies e told (asks.Block channel bytes) result a (inr is) = (_, ap (λ (x : Answer). x.reply) is.2)
replies e told (asks.End channel) result a (inl is) = (_, ap (λ (x : Answer). x.reply) is.1)
replies e told (asks.End channel) result a (inr is) = (_, ap (λ (x : Answer). x.reply) is.2)
replies e told (asks.Acks run numbers) result a (inl is) = (_, ap (λ (x : Answer). x.reply) is)
replies e told (asks.Acks run numbers) result a (inr is) = (_, ap (λ (x : Answer). x.reply) is)
replies e told asks.Buckets result a (inl is) = (_, ap (λ (x : Answer). x.reply) is)
replies e told asks.Buckets result a (inr is) = (_, ap (λ (x : Answer). x.reply) is)
replies e told (asks.Events index range) result a (inl is) = (_, ap (λ (x : Answer). x.reply) is.2)
replies e told (asks.Events index range) result a (inr (inl is)) = (_, ap (λ (x : Answer). x.reply) is)
replies e told (asks.Events index range) result a (inr (inr is)) = (_, ap (λ (x : Answer). x.reply) is.2)

abbrev unread_end : ℕ → ℕ → Bool → Option Fed
unread_end request status whole = if whole then None else Some (if nat_eq status 503 then fed.NoMemory else fed.Unreadable request)

-- the end behind a reply, whatever it says
end_replied : (request status : ℕ) (whole unshortened : Bool) →
    (let came : Result Served ServeFault = Ok (served.Reply status whole unshortened) in
    end_of request came) ≡ unread_end request status whole
end_replied request status true unshortened = refl
end_replied request status false unshortened = refl

ends_as : (request : ℕ) (r : Reply) (whole : Bool) (result : Result Served ServeFault) → Came (Some r) whole result →
    still_open result ≡ true → (result ≡ Err fault.Link → ⊥) → end_of request result ≡ unread_end request r.status whole
ends_as request r whole (Ok served.Ended) came up fine = absurd came
ends_as request r whole (Ok (served.Reply status w unshortened)) came up fine =
    end_replied request status w unshortened ∙ ap (λ (n : ℕ). unread_end request n w) came.0
    ∙ ap (λ (b : Bool). unread_end request r.status b) came.1
ends_as request r whole (Err fault.Disk) came up fine = absurd (false≢true up)
ends_as request r whole (Err (fault.Damaged file at)) came up fine = absurd (false≢true up)
ends_as request r whole (Err fault.Link) came up fine = absurd (fine refl)
ends_as request r whole (Err fault.Cut) came up fine = absurd came

unread_as : (request : ℕ) (why : HttpFault) (whole : Bool) →
    unread_end request (http_status why) whole ≡ (if whole then None else Some (fed.Unreadable request))
unread_as request http.BadHead whole = refl
unread_as request http.NoRoute whole = refl
unread_as request http.WrongMethod whole = refl
unread_as request http.NoLength whole = refl
unread_as request http.Encoded whole = refl
unread_as request http.TooLong whole = refl
unread_as request http.BadQuery whole = refl
unread_as request http.BadBody whole = refl

pub ends_by_read : (request : ℕ) (e : Entry) (told : Type 0) (read : Found) (result : Result Served ServeFault) (a : Answer) →
    Says e told read result a → Came a.reply (is_whole read) result → still_open result ≡ true → (result ≡ Err fault.Link → ⊥) →
    end_of request result ≡ end_by request read
ends_by_read request e told (Ok was.Ended) result a says came up fine = ap (end_of request) says.0
ends_by_read request e told (Ok (was.Asked ask)) result a says came up fine =
    let r = replies e told ask result a says in
    ends_as request r.0 true result (subst (λ (x : Option Reply). Came x true result) r.1 came) up fine
ends_by_read request e told (Ok (was.Refused why delimited)) result a says came up fine =
    ends_as request (unread why) delimited result (subst (λ (x : Option Reply). Came x delimited result) (ap (λ (x : Answer). x.reply) says)
    came) up fine ∙ unread_as request why delimited
ends_by_read request e told (Err link.Failed) result a says came up fine = absurd (fine says.0)
ends_by_read request e told (Err link.Cut) result a says came up fine = ap (end_of request) says.0
ends_by_read request e told (Err (link.NoMemory whole)) result a says came up fine =
    ends_as request no_memory whole result (subst (λ (x : Option Reply). Came x whole result) (ap (λ (x : Answer). x.reply) says) came) up
    fine

-- ---- what is known

both : (b c : Bool) (n m : ℕ) → b ≡ true → c ≡ true → (if b && c then n else m) ≡ n
both true true n m one two = refl
both true false n m one two = absurd (false≢true two)
both false c n m one two = absurd (false≢true one)

-- more commands have no fewer numbers
counted_more : (base k k' : ℕ) (h : List TimedCommand) → k ≤ k' → numbers (drop base (take k h)) ≤ numbers (drop base (take k' h))
counted_more zero k k' h le = subst (λ (l : List TimedCommand). numbers l ≤ numbers (take k' h)) (take-take k k' h le)
    (sum_by-take-le _ (take k' h) k)
counted_more (suc base) zero k' h le = omega arith
counted_more (suc base) (suc k) zero h le = absurd (omega (arith, le))
counted_more (suc base) (suc k) (suc k') [] le = omega arith
counted_more (suc base) (suc k) (suc k') (x ∷ h) le = counted_more base k k' h (omega (arith, le))

or_or : (a b c d : Bool) → (a ≡ true → b ≡ true) → (c ≡ true → d ≡ true) → (a || c) ≡ true → (b || d) ≡ true
or_or true b c d f g is = ap (λ (x : Bool). x || d) (f refl)
or_or false true c d f g is = refl
or_or false false c d f g is = g is

-- what passes one test passes a weaker one
list_any_more : (p q : ℕ → Bool) → ((x : ℕ) → p x ≡ true → q x ≡ true) → (xs : List ℕ) → list_any p xs ≡ true → list_any q xs ≡ true
list_any_more p q so [] is = is
list_any_more p q so (x ∷ xs) is = or_or (p x) (q x) (list_any p xs) (list_any q xs) (so x) (list_any_more p q so xs) is

is_same : (a b : ℕ) → nat_eq a b ≡ true → a ≡ b
is_same a b is = grind (arith, nat_tests)

is_under : (a b : ℕ) → nat_lt a b ≡ true → a < b
is_under a b is = grind (arith, nat_tests)

own_run : (run : ℕ) → (run == run) ≡ true
own_run run = grind (arith, nat_tests)

acked_is : (run n committed : ℕ) → n < committed → ((run == run) && nat_lt n committed) ≡ true
acked_is run n committed lt = rw (own_run run, is_below n committed lt) refl

pending_is : (run n drawn committed : ℕ) → n < drawn → nat_lt n committed ≡ false →
    ((run == run) && (nat_lt n drawn && not ((run == run) && nat_lt n committed))) ≡ true
pending_is run n drawn committed lt unknown = rw (own_run run, is_below n drawn lt, unknown) refl

module _ {D : Type 0} (g : Ghosts D) (fits : NamedItems → Type 0) (s : Start D) where
  pub all_told : (earlier : List (Turn D)) (last turn : Turn D) (from to : Coming) → IsTurn g fits s (last ∷ earlier) turn from to →
      last.answer.commits ≡ true → still_open last.result ≡ true →
      committed (entry_of s (last ∷ earlier) turn) ≡ drawn (entry_of s (last ∷ earlier) turn)
  all_told earlier last turn from to is commits up =
      let now = history_after s earlier ++ last.answer.more in
      let knows = both last.answer.commits (still_open last.result) (length now) last.kept commits up in
      let all : turn.kept ≡ length now = omega (arith, is.safe.least, is.safe.within, knows) in
      ap (λ (n : ℕ). numbers (drop s.base (take n now))) all ∙ ap (λ (l : List TimedCommand). numbers (drop s.base l)) (take_whole now)

  -- a number that was asked for is committed when the next request comes
  pub told_next : (earlier : List (Turn D)) (last turn : Turn D) (from mid mid' to : Coming) (asked : List ℕ) (number : ℕ) →
      IsTurn g fits s earlier last from mid → IsTurn g fits s (last ∷ earlier) turn mid' to →
      last.read ≡ Ok (was.Asked (asks.Acks s.run asked)) → (last.answer ≡ declined → ⊥) → still_open last.result ≡ true →
      list_any (λ n. nat_eq n number) asked ≡ true → number < drawn (entry_of s earlier last) →
      is_acked (entry_of s (last ∷ earlier) turn) s.run number ≡ true
  told_next earlier last turn from mid mid' to asked number first is read not up has lt =
      let e = entry_of s earlier last in
      let next = entry_of s (last ∷ earlier) turn in
      let h = history_after s earlier in
      let here = known_least last.answer.commits (still_open last.result) (length (h ++ last.answer.more)) last.kept
      (omega (arith, first.safe.within, length-append h last.answer.more)) in
      let later : last.kept ≤ turn.kept = omega (arith, here, is.safe.least) in
      ⊎_elim
      (λ (answers : last.answer ≡ says (list_any (is_pending e s.run) asked) (acks (map (is_acked e s.run) asked))).
      let same : h ++ last.answer.more ≡ h = ap (λ (a : Answer). h ++ a.more) answers ∙ append-nil h in
      let committed_as : committed next ≡ numbers (drop s.base (take turn.kept h)) =
      ap (λ (l : List TimedCommand). numbers (drop s.base (take turn.kept l))) same in
      let drawn_as : drawn next ≡ drawn e = ap (λ (l : List TimedCommand). numbers (drop s.base l)) same in
      by_test (nat_lt number (committed e))
      (λ known_then.
      let below : number < committed e = is_under number (committed e) known_then in
      let grown : committed e ≤ numbers (drop s.base (take turn.kept h)) = counted_more s.base last.kept turn.kept h later in
      acked_is s.run number (committed next) (omega (arith, below, grown, committed_as)))
      (λ unknown.
      let pending = list_any_more (λ n. nat_eq n number) (is_pending e s.run)
      (λ x same_number. subst (λ (n : ℕ). is_pending e s.run n ≡ true) (sym (is_same x number same_number))
      (pending_is s.run number (drawn e) (committed e) lt unknown)) asked has in
      let commits : last.answer.commits ≡ true = ap (λ (a : Answer). a.commits) answers ∙ pending in
      let all : committed next ≡ drawn next = all_told earlier last turn mid' to is commits up in
      acked_is s.run number (committed next) (omega (arith, lt, drawn_as, all))))
      (λ (none : last.answer ≡ declined). absurd (not none))
      (subst (λ (f : Found). Says e (IsTold g last.disk) f last.result last.answer) read first.says)

  known_fewer : (turns : List (Turn D)) (one other : ℕ) → one ≤ other → HasKnown one turns → HasKnown other turns
  known_fewer [] one other le has = tt
  known_fewer (turn ∷ earlier) one other le has = (omega (arith, has.0, le), known_fewer earlier one other le has.1)

  pub stays_known : (turns : List (Turn D)) → AreSafe g fits s turns → HasKnown (known s turns) turns
  stays_known [] safe = tt
  stays_known (turn ∷ earlier) safe =
      let here = known_least turn.answer.commits (still_open turn.result) (length (history_after s earlier ++ turn.answer.more)) turn.kept
      (omega (arith, safe.1.within, length-append (history_after s earlier) turn.answer.more)) in (
        here,
        known_fewer earlier (known s earlier) (known s (turn ∷ earlier)) (omega (arith, safe.1.least, here))
            (stays_known earlier safe.0),
      )

  abbrev On : List TimedCommand → ℕ → Image → Type 0
  On now n = StandsIn fits s.run s.choose now n

  lasts_on : (turns : List (Turn D)) (more : List TimedCommand) (new : D) → AreSafe g fits s turns →
      Always g (disk_after s turns) new (On (history_after s turns ++ more) (known s turns)) →
      Lasts g fits s (history_after s turns ++ more) new turns
  lasts_on [] more new safe behind = tt
  lasts_on (turn ∷ earlier) more new safe behind =
      let past = history_after s earlier in
      let now = (past ++ turn.answer.more) ++ more in
      let joined : past ++ (turn.answer.more ++ more) ≡ now = sym (append_assoc past turn.answer.more more) in
      let here = known_least turn.answer.commits (still_open turn.result) (length (past ++ turn.answer.more)) turn.kept
      (omega (arith, safe.1.within, length-append past turn.answer.more)) in
      let first = always_weaker g (disk_after s earlier) turn.disk (On (past ++ turn.answer.more) turn.kept) (On now (known s earlier))
      (longer fits s.run s.choose (known s earlier) turn.kept (past ++ turn.answer.more) more safe.1.least) safe.1.images in
      let second = always_weaker g turn.disk new (On now (known s (turn ∷ earlier))) (On now (known s earlier))
      (λ image is. record { count = is.count; least = omega (arith, is.least, here, safe.1.least); most = is.most; stands = is.stands })
      behind in (
        record {
          at_first = λ image may. longer fits s.run s.choose (known s (turn ∷ earlier)) (known s (turn ∷ earlier)) (past
              ++ turn.answer.more) more (omega arith) image (safe.1.settled image may);
          since = behind;
        },
        subst (λ (l : List TimedCommand). Lasts g fits s l new earlier) joined
            (lasts_on earlier (turn.answer.more ++ more) new safe.0
            (subst (λ (l : List TimedCommand). Always g (disk_after s earlier) new (On l (known s earlier))) (sym joined)
            (always_on g (disk_after s earlier) turn.disk new (On now (known s earlier)) first second))),
      )

  pub lasts : (turns : List (Turn D)) (new : D) → AreSafe g fits s turns →
      Always g (disk_after s turns) new (Has fits s turns (known s turns)) → Lasts g fits s (history_after s turns) new turns
  lasts turns new safe behind =
      let whole = append-nil (history_after s turns) in
      subst (λ (l : List TimedCommand). Lasts g fits s l new turns) whole
      (lasts_on turns [] new safe (subst (λ (l : List TimedCommand). Always g (disk_after s turns) new (On l (known s turns))) (sym whole)
      behind))

-- ---- what is read, whatever the store holds

replied_ends : (request : ℕ) (whole : Bool) (result : Result Served ServeFault) → IsReplied whole result → still_open result ≡ true →
    (result ≡ Err fault.Link → ⊥) → whole ≡ true → end_of request result ≡ None
replied_ends request whole (Ok served.Ended) is up fine all = absurd is
replied_ends request whole (Ok (served.Reply status w unshortened)) is up fine all = end_replied request status w unshortened
    ∙ ap (λ (b : Bool). unread_end request status b) (is ∙ all)
replied_ends request whole (Err fault.Disk) is up fine all = absurd (false≢true up)
replied_ends request whole (Err (fault.Damaged file at)) is up fine all = absurd (false≢true up)
replied_ends request whole (Err fault.Link) is up fine all = absurd (fine refl)
replied_ends request whole (Err fault.Cut) is up fine all = absurd is

status_ends : (request n : ℕ) (whole : Bool) (result : Result Served ServeFault) → IsReplied whole result → HasStatus n result →
    still_open result ≡ true → (result ≡ Err fault.Link → ⊥) → end_of request result ≡ unread_end request n whole
status_ends request n whole (Ok served.Ended) is has up fine = absurd is
status_ends request n whole (Ok (served.Reply status w unshortened)) is has up fine =
    end_replied request status w unshortened ∙ ap (λ (m : ℕ). unread_end request m w) has ∙ ap (λ (b : Bool). unread_end request n b) is
status_ends request n whole (Err fault.Disk) is has up fine = absurd (false≢true up)
status_ends request n whole (Err (fault.Damaged file at)) is has up fine = absurd (false≢true up)
status_ends request n whole (Err fault.Link) is has up fine = absurd (fine refl)
status_ends request n whole (Err fault.Cut) is has up fine = absurd is

pub read_ends : (request : ℕ) (read : Found) (result : Result Served ServeFault) → ComesOf read result → still_open result ≡ true →
    (result ≡ Err fault.Link → ⊥) → end_of request result ≡ end_by request read
read_ends request (Ok was.Ended) result is up fine = ap (end_of request) is
read_ends request (Ok (was.Asked ask)) result is up fine = replied_ends request true result is up fine refl
read_ends request (Ok (was.Refused why delimited)) result is up fine =
    status_ends request (http_status why) delimited result is.0 is.1 up fine ∙ unread_as request why delimited
read_ends request (Err link.Failed) result is up fine = absurd (fine is)
read_ends request (Err link.Cut) result is up fine = ap (end_of request) is
read_ends request (Err (link.NoMemory whole)) result is up fine = status_ends request 503 whole result is.0 is.1 up fine
