-- Laws of the marks at the places of a name.
use Rattle.std.proofs.Common.{◌≡◌, ℕ, zero, suc, ◌+◌, ◌-◌, ◌<◌, ◌≤◌, ◌⊎◌, inl, inr, Bool, true, false, ◌&&◌, ◌||◌, List, [], ◌∷◌, ◌++◌}
use Rattle.std.proofs.Common.{length, drop, get_or, replicate, sym, ap, ◌∙◌, subst, arith}
use Rattle.std.proofs.lemmas.Bool.{cases_lt}
use Rattle.std.proofs.lemmas.List.{drop_more, drop_all, get_or-replicate, length-replicate, length-append, get_or_append_left, get_or_at}
use Rattle.ix_conf.specs.declared.names.Level.{Level}
use Rattle.ix_conf.specs.Names.{same_byte}
use Rattle.ix_conf.specs.Walk.{Ask, is_end, never, any_of, byte_then, bytes_then, may_pass, Lead, lead_with, close_step, bar_step}
use Rattle.ix_conf.specs.Walk.{open_step, answer, Marks, MarksAll, EachLong, IsEither, IsBarred, IsOpened}

-- a place is within the name or at its end
within_or_end : (name : List ℕ) (i : ℕ) → i ≤ length name → (i < length name) ⊎ (i ≡ length name)
within_or_end name i h = elim (cases_lt i (length name)) [ inl l ↦ inl l | inr l ↦ inr (omega arith) ]

at_end : (name : List ℕ) → drop (length name) name ≡ []
at_end name = drop_all (length name) name (omega arith)

pub marks_byte : (name : List ℕ) (fold : Bool) (b : ℕ) (ask : Ask) (old new : List Bool) → Marks name ask old → length new ≡ length old
    → ((i : ℕ) → i < length name → get_or new i false ≡ (same_byte fold b (get_or name i 0) && get_or old (i + 1) false))
    → get_or new (length name) false ≡ false → Marks name (byte_then fold b ask) new
marks_byte name fold b ask old new m long each last = record {
  long = long ∙ m.long;
  each = λ i h. elim (within_or_end name i h) [
    | inl l ↦
        each i l ∙ ap (λ (t : Bool). same_byte fold b (get_or name i 0) && t) (m.each (i + 1) (omega arith))
        ∙ sym (ap (byte_then fold b ask) (drop_more name i 0 l))
    | inr e ↦
        let P : ℕ → Type 0 = λ n. get_or new n false ≡ byte_then fold b ask (drop n name) in
        subst P (sym e) (last ∙ sym (ap (byte_then fold b ask) (at_end name)))
  ];
}

bytes_from : (name : List ℕ) (slash : Bool) (ask : Ask) (old new : List Bool) → Marks name ask old
    → ((i : ℕ) → i < length name → get_or new i false ≡ (get_or old i false ||
    (may_pass slash (get_or name i 0) && get_or new (i + 1) false)))
    → get_or new (length name) false ≡ get_or old (length name) false
    → (k i : ℕ) → i + k ≡ length name → get_or new i false ≡ bytes_then slash ask (drop i name)
bytes_from name slash ask old new m each last zero i h =
    let e : i ≡ length name = omega arith in
    let P : ℕ → Type 0 = λ n. get_or new n false ≡ bytes_then slash ask (drop n name) in
    subst P (sym e) (last ∙ m.each (length name) (omega arith) ∙ ap ask (at_end name) ∙ sym (ap (bytes_then slash ask) (at_end name)))
bytes_from name slash ask old new m each last (suc k) i h =
    let l : i < length name = omega arith in
    let rest = bytes_from name slash ask old new m each last k (i + 1) (omega arith) in
    let c = get_or name i 0 in
    let more = drop_more name i 0 l in
    each i l
    ∙ ap (λ (t : Bool). t || (may_pass slash c && get_or new (i + 1) false)) (m.each i (omega arith) ∙ ap ask more)
    ∙ ap (λ (t : Bool). ask (c ∷ drop (i + 1) name) || (may_pass slash c && t)) rest
    ∙ sym (ap (bytes_then slash ask) more)

pub marks_bytes : (name : List ℕ) (slash : Bool) (ask : Ask) (old new : List Bool) → Marks name ask old → length new ≡ length old
    → ((i : ℕ) → i < length name → get_or new i false ≡ (get_or old i false ||
    (may_pass slash (get_or name i 0) && get_or new (i + 1) false)))
    → get_or new (length name) false ≡ get_or old (length name) false → Marks name (bytes_then slash ask) new
marks_bytes name slash ask old new m long each last = record {
  long = long ∙ m.long;
  each = λ i h. bytes_from name slash ask old new m each last (length name - i) i (omega arith);
}

pub marks_either : (name : List ℕ) (f g : Ask) (a b new : List Bool) → Marks name f a → Marks name g b → IsEither a b new →
    Marks name (any_of f g) new
marks_either name f g a b new m n is = record {
  long = is.long ∙ m.long;
  each = λ i h. is.each i (omega (arith, n.long))
      ∙ ap (λ (t : Bool). t || get_or b i false) (m.each i h) ∙ ap (λ (t : Bool). f (drop i name) || t) (n.each i h);
}

pub marks_never : (name : List ℕ) (n : ℕ) → n ≡ length name + 1 → Marks name never (replicate n false)
marks_never name n h = record {
  long = length-replicate n false ∙ h;
  each = λ i l. get_or-replicate n i false false (omega arith);
}

pub marks_same : (name : List ℕ) (ask : Ask) (a b : List Bool) → b ≡ a → Marks name ask a → Marks name ask b
marks_same name ask a b e m = let P : List Bool → Type 0 = λ x. Marks name ask x in subst P (sym e) m

-- the levels have as many marks as the name has places
pub marks_long : (name : List ℕ) (xs : List Lead) (ls : List Level) → MarksAll name xs ls → EachLong (length name + 1) ls
marks_long name [] [] m = tt
marks_long name [] (l ∷ ls) m = absurd m
marks_long name (x ∷ xs) [] m = absurd m
marks_long name (x ∷ xs) (l ∷ ls) m = (m.0.leads.long, m.0.others.long, marks_long name xs ls m.1)

-- one token back
pub level_changed : (name : List ℕ) (change : Ask → Ask) (top new : Level) (below : List Level)
    → ((ask : Ask) → Marks name ask top.leads.items → Marks name (change ask) new.leads.items) → new.others ≡ top.others
    → (xs : List Lead) → MarksAll name xs (top ∷ below) → MarksAll name (lead_with change xs) (new ∷ below)
level_changed name change top new below turns same [] m = absurd m
level_changed name change top new below turns same (x ∷ xs) m = (
  record {
    leads = turns x.leads m.0.leads;
    others = marks_same name x.others top.others.items new.others.items (ap (λ v. v.items) same)
        m.0.others;
  },
  m.1,
)

pub level_closed : (name : List ℕ) (top new : Level) (below after : List Level) → new.leads.items ≡ top.leads.items
    → new.others.items ≡ replicate (length top.leads.items) false → after ≡ top ∷ below
    → (xs : List Lead) → MarksAll name xs (top ∷ below) → MarksAll name (close_step xs) (new ∷ after)
level_closed name top new below after leads others is [] m = absurd m
level_closed name top new below after leads others is (x ∷ xs) m =
    let P : List Level → Type 0 = λ ls. MarksAll name (close_step (x ∷ xs)) (new ∷ ls) in
    subst P (sym is) (
      record {
        leads = marks_same name x.leads top.leads.items new.leads.items leads m.0.leads;
        others = marks_same name never _ new.others.items others (marks_never name (length top.leads.items) m.0.leads.long);
      },
      m,
    )

pub level_barred : (name : List ℕ) (top new : Level) (below : List Level) → IsBarred top below new
    → (xs : List Lead) → MarksAll name xs (top ∷ below) → MarksAll name (bar_step xs) (new ∷ below)
level_barred name top new [] is [] m = absurd m
level_barred name top new [] is (x ∷ []) m = let P : Level → Type 0 = λ l. MarksAll name (x ∷ []) (l ∷ []) in subst P (sym is) m
level_barred name top new [] is (x ∷ y ∷ xs) m = absurd m.1
level_barred name top new (outer ∷ below) is [] m = absurd m
level_barred name top new (outer ∷ below) is (x ∷ []) m = absurd m.1
level_barred name top new (outer ∷ below) is (x ∷ y ∷ xs) m = (
  record {
    leads = marks_same name y.leads outer.leads.items new.leads.items is.0 m.1.0.leads;
    others = marks_either name x.others x.leads top.others.items top.leads.items new.others.items m.0.others m.0.leads is.1;
  },
  m.1,
)

pub level_opened : (name : List ℕ) (top new : Level) (below after : List Level) → IsOpened top below new after
    → (xs : List Lead) → MarksAll name xs (top ∷ below) → MarksAll name (open_step xs) (new ∷ after)
level_opened name top new [] after is [] m = absurd m
level_opened name top new [] after is (x ∷ []) m =
    let P : Level → Type 0 = λ l. MarksAll name (x ∷ []) (l ∷ after) in
    let Q : List Level → Type 0 = λ ls. MarksAll name (x ∷ []) (top ∷ ls) in
    subst P (sym is.0) (subst Q (sym is.1) m)
level_opened name top new [] after is (x ∷ y ∷ xs) m = absurd m.1
level_opened name top new (outer ∷ below) after is [] m = absurd m
level_opened name top new (outer ∷ below) after is (x ∷ []) m = absurd m.1
level_opened name top new (outer ∷ below) after is (x ∷ y ∷ xs) m =
    let P : List Level → Type 0 = λ ls. MarksAll name (open_step (x ∷ y ∷ xs)) (new ∷ ls) in
    subst P (sym is.2) (
      record {
        leads = marks_either name x.others x.leads top.others.items top.leads.items new.leads.items m.0.others m.0.leads is.1;
        others = marks_same name y.others outer.others.items new.others.items (ap (λ v. v.items) is.0) m.1.0.others;
      },
      m.1.1,
    )

-- the end of the name
pub marks_end : (name : List ℕ) (n : ℕ) → n ≡ length name → Marks name is_end (replicate n false ++ true ∷ [])
marks_end name n e = record {
  long = length-append (replicate n false) (true ∷ []) ∙ ap (λ (k : ℕ). k + 1) (length-replicate n false ∙ e);
  each = λ i h. elim (within_or_end name i h) [
    | inl l ↦
        get_or_append_left (replicate n false) (true ∷ []) false i (omega (arith, length-replicate n false))
        ∙ get_or-replicate n i false false (omega arith) ∙ sym (ap is_end (drop_more name i 0 l))
    | inr end ↦
        let P : ℕ → Type 0 = λ k. get_or (replicate n false ++ true ∷ []) k false ≡ is_end (drop k name) in
        subst P (sym end)
        (get_or_at (replicate n false) true [] false (length name) (omega (arith, length-replicate n false))
        ∙ sym (ap is_end (at_end name)))
  ];
}

pub answer_marked : (name : List ℕ) (xs : List Lead) (top : Level) (below : List Level) → MarksAll name xs (top ∷ below)
    → (get_or top.others.items 0 false || get_or top.leads.items 0 false) ≡ answer xs name
answer_marked name [] top below m = absurd m
answer_marked name (x ∷ xs) top below m =
    ap (λ (t : Bool). t || get_or top.leads.items 0 false) (m.0.others.each 0 (omega arith))
    ∙ ap (λ (t : Bool). x.others name || t) (m.0.leads.each 0 (omega arith))
