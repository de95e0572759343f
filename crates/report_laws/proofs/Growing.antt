-- The history of a cut is that of each larger one with some entries left out.
use Rattle.std.proofs.Common.{◌≡◌, ◌⊎◌, ℕ, zero, suc, Bool, true, false, cond, ◌&&◌, ◌||◌, List, [], ◌∷◌, ◌++◌, filter}
use Rattle.std.proofs.Common.{refl, sym, ap, ◌∙◌, subst, inl, inr, arith}
use Rattle.std.specs.Prelude.{◌==◌, nat_lt, if◌then◌else◌}
use Rattle.std.specs.List.{list_any}
use Rattle.std.proofs.lemmas.Bool.{or_cases, or_left, or_right}
use Rattle.std.proofs.lemmas.Bool.Decides.{nat_tests}
use Rattle.run_theory.specs.Lists.{Each, IsPast}
use Rattle.sig_core.specs.declared.entry.Entry.{Entry}
use Rattle.sig_core.specs.declared.mark.Mark.{Mark}
use Rattle.sig_core.specs.declared.mark.Mark.TheVariants.{Decided}
use Rattle.world_core.specs.Entries.{entries, entries_in, entries_of, entry_of, insert, insert_all, is_before}
use Rattle.world_core.specs.History.{history, is_applied, is_kept, is_reported, writes}
use Rattle.world_core.specs.Hosts.{hosts}
use Rattle.world_core.specs.Marks.{has_mark, have_mark}
use Rattle.world_core.specs.Steps.{HostStep}
use Rattle.report_laws.specs.Growing.{HistoriesGrow, IsSublist}

each_sublist : {A : Type 0} (P : A → Type 0) (xs ys : List A) → IsSublist xs ys → Each P ys → Each P xs
each_sublist P xs [] none all = subst (Each P) (sym none) tt
each_sublist P xs (y ∷ ys) (inl part) all = each_sublist P xs ys part all.1
each_sublist P xs (y ∷ ys) (inr keeps) all = subst (Each P) (sym keeps.is)
    (all.0, each_sublist P keeps.rest ys keeps.holds all.1)

-- what passes a test, of fewer items, is part of what passes a wider one
filter_sublist : {A : Type 0} (p q : A → Bool) → ((x : A) → p x ≡ true → q x ≡ true) → (xs ys : List A)
    → IsSublist xs ys → IsSublist (filter p xs) (filter q ys)
filter_sublist p q wider xs [] none = ap (filter p) none
filter_sublist {A} p q wider xs (y ∷ ys) (inl part) = by (q y) (filter_sublist p q wider xs ys part)
  where
    by : (b : Bool) → IsSublist (filter p xs) (filter q ys) → IsSublist (filter p xs)
        (cond b (y ∷ filter q ys) (filter q ys))
    by true rest = inl rest
    by false rest = rest
filter_sublist {A} p q wider xs (y ∷ ys) (inr keeps) =
    subst (λ zs. IsSublist (filter p zs) (filter q (y ∷ ys))) (sym keeps.is)
    (by (p y) (q y) refl refl (filter_sublist p q wider keeps.rest ys keeps.holds))
  where
    by : (a b : Bool) → p y ≡ a → q y ≡ b → IsSublist (filter p keeps.rest) (filter q ys)
        → IsSublist (cond a (y ∷ filter p keeps.rest) (filter p keeps.rest)) (cond b (y ∷ filter q ys) (filter q ys))
    by true true e f rest = inr (record { rest = filter p keeps.rest; is = refl; holds = rest })
    by false true e f rest = inl rest
    by false false e f rest = rest
    by true false e f rest = absurd (let both : true ≡ false = sym (wider y e) ∙ f in cc)

-- the order of entries: by three numbers, one after the other
abbrev less : ℕ → ℕ → ℕ → ℕ → ℕ → ℕ → Bool
less v s h w t k = nat_lt v w || ((v == w) && (nat_lt s t || ((s == t) && nat_lt h k)))

less_less : (v s h w t k x r g : ℕ) → less v s h w t k ≡ true → less w t k x r g ≡ true → less v s h x r g ≡ true
less_less v s h w t k x r g one two = grind (arith, nat_tests)

less_unless : (v s h w t k x r g : ℕ) → less v s h w t k ≡ true → less x r g w t k ≡ false → less v s h x r g ≡ true
less_unless v s h w t k x r g one two = grind (arith, nat_tests)

-- what comes before the first of the two comes before the other
record Leads (b c : Entry) : Type 0 where
  before : (a : Entry) → is_before a b ≡ true → is_before a c ≡ true

abbrev AreOrdered : List Entry → Type 0
AreOrdered [] = Unit {0}
AreOrdered (b ∷ rest) = Each (Leads b) rest × AreOrdered rest

leads : (a b : Entry) → is_before a b ≡ true → Leads a b
leads a b is = record {
  before = λ x e. less_less x.view x.stamp x.host.0 a.view a.stamp a.host.0 b.view b.stamp
      b.host.0 e is;
}

follows : (a b : Entry) → is_before a b ≡ false → Leads b a
follows a b off = record {
  before = λ x e. less_unless x.view x.stamp x.host.0 b.view b.stamp b.host.0 a.view a.stamp
      a.host.0 e off;
}

each_leads : (a b : Entry) → is_before a b ≡ true → (rest : List Entry) → Each (Leads b) rest → Each (Leads a) rest
each_leads a b is [] all = tt
each_leads a b is (c ∷ rest) all = (
  record { before = λ x e. all.0.before x ((leads a b is).before x e) },
  each_leads a
      b is rest all.1,
)

each_insert : (P : Entry → Type 0) (a : Entry) (xs : List Entry) → P a → Each P xs → Each P (insert a xs)
each_insert P a [] own all = (own, tt)
each_insert P a (b ∷ rest) own all = by (is_before a b) (each_insert P a rest own all.1)
  where
    by : (test : Bool) → Each P (insert a rest) → Each P (if test then a ∷ b ∷ rest else b ∷ insert a rest)
    by true more = (own, all)
    by false more = (all.0, more)

insert_ordered : (a : Entry) (xs : List Entry) → AreOrdered xs → AreOrdered (insert a xs)
insert_ordered a [] ordered = (tt, tt)
insert_ordered a (b ∷ rest) ordered = by (is_before a b) refl (insert_ordered a rest ordered.1)
  where
    by : (test : Bool) → is_before a b ≡ test → AreOrdered (insert a rest) → AreOrdered
        (if test then a ∷ b ∷ rest else b ∷ insert a rest)
    by true e more = ((leads a b e, each_leads a b e rest ordered.0), ordered)
    by false e more = (each_insert (Leads b) a rest (follows a b e) ordered.0, more)

insert_first : (a : Entry) (xs : List Entry) → Each (λ (c : Entry). is_before a c ≡ true) xs → insert a xs ≡ a ∷ xs
insert_first a [] all = refl
insert_first a (b ∷ xs) all = ap (λ c. if c then a ∷ b ∷ xs else b ∷ insert a xs) all.0

all_before : (a b : Entry) → is_before a b ≡ true → (rest : List Entry) → Each (Leads b) rest
    → Each (λ (c : Entry). is_before a c ≡ true) rest
all_before a b is [] all = tt
all_before a b is (c ∷ rest) all = (all.0.before a is, all_before a b is rest all.1)

-- an entry at its place in both lists, or in the larger one alone
insert_both : (a : Entry) (xs ys : List Entry) → IsSublist xs ys → AreOrdered ys → IsSublist (insert a xs) (insert a ys)
insert_both a xs [] none ordered = subst (λ zs. IsSublist (insert a zs) (a ∷ [])) (sym none)
    (inr (record { rest = []; is = refl; holds = refl }))
insert_both a xs (y ∷ ys) (inl part) ordered = by (is_before a y) refl (insert_both a xs ys part ordered.1)
  where
    by : (test : Bool) → is_before a y ≡ test → IsSublist (insert a xs) (insert a ys)
        → IsSublist (insert a xs) (if test then a ∷ y ∷ ys else y ∷ insert a ys)
    by true e more =
        inr (record {
          rest = xs;
          is = insert_first a xs
              (each_sublist (λ (c : Entry). is_before a c ≡ true) xs ys part (all_before a y e ys ordered.0));
          holds = inl
              part;
        })
    by false e more = inl more
insert_both a xs (y ∷ ys) (inr keeps) ordered =
    subst (λ zs. IsSublist (insert a zs) (insert a (y ∷ ys))) (sym keeps.is)
    (by (is_before a y) (insert_both a keeps.rest ys keeps.holds ordered.1))
  where
    by : (test : Bool) → IsSublist (insert a keeps.rest) (insert a ys)
        → IsSublist (if test then a ∷ y ∷ keeps.rest else y ∷ insert a keeps.rest)
        (if test then a ∷ y ∷ ys else y ∷ insert a ys)
    by true more = inr (record {
      rest = y ∷ keeps.rest;
      is = refl;
      holds = inr
          (record { rest = keeps.rest; is = refl; holds = keeps.holds });
    })
    by false more = inr (record { rest = insert a keeps.rest; is = refl; holds = more })

insert_more : (a : Entry) (xs ys : List Entry) → IsSublist xs ys → IsSublist xs (insert a ys)
insert_more a xs [] none = inl none
insert_more a xs (y ∷ ys) part = by (is_before a y) part (λ zs. insert_more a zs ys)
  where
    by : (test : Bool) → IsSublist xs (y ∷ ys) → ((zs : List Entry) → IsSublist zs ys → IsSublist zs (insert a ys))
        → IsSublist xs (if test then a ∷ y ∷ ys else y ∷ insert a ys)
    by true part more = inl part
    by false (inl rest) more = inl (more xs rest)
    by false (inr keeps) more = inr (record { rest = keeps.rest; is = keeps.is; holds = more keeps.rest keeps.holds })

all_ordered : (news into : List Entry) → AreOrdered into → AreOrdered (insert_all news into)
all_ordered [] into ordered = ordered
all_ordered (a ∷ news) into ordered = insert_ordered a (insert_all news into) (all_ordered news into ordered)

all_both : (olds xs ys : List Entry) → IsSublist xs ys → AreOrdered ys → IsSublist (insert_all olds xs)
    (insert_all olds ys)
all_both [] xs ys part ordered = part
all_both (a ∷ olds) xs ys part ordered = insert_both a (insert_all olds xs) (insert_all olds ys)
    (all_both olds xs ys part ordered) (all_ordered olds ys ordered)

all_more : (news olds xs ys : List Entry) → IsSublist xs ys → AreOrdered ys → IsSublist (insert_all olds xs)
    (insert_all (news ++ olds) ys)
all_more [] olds xs ys part ordered = all_both olds xs ys part ordered
all_more (a ∷ news) olds xs ys part ordered = insert_more a (insert_all olds xs) (insert_all (news ++ olds) ys)
    (all_more news olds xs ys part ordered)

-- the entries of a log are an older part of those of a longer one
past_more : (a : Entry) (xs ys : List Entry) → IsPast xs ys → IsPast xs (a ∷ ys)
past_more a xs ys past = record { newer = a ∷ past.newer; is = ap (λ zs. a ∷ zs) past.is }

past_marks : (h stamp : ℕ) (log : List HostStep) (marks : List Mark) (xs before : List Entry) → IsPast xs before
    → IsPast xs (entries_in h stamp log marks before)
past_marks h stamp log [] xs before past = past
past_marks h stamp log (Decided tx epoch ∷ marks) xs before past =
    past_marks h stamp log marks xs (entry_of h stamp log tx epoch ∷ before)
    (past_more (entry_of h stamp log tx epoch) xs before past)
past_marks h stamp log (m ∷ marks) xs before past = past_marks h stamp log marks xs before past

past_entries : (h : ℕ) (newer log : List HostStep) → IsPast (entries_of h log) (entries_of h (newer ++ log))
past_entries h [] log = record { newer = []; is = refl }
past_entries h (e ∷ newer) log = past_marks h e.step.stamp (e ∷ newer ++ log) e.step.marks (entries_of h log)
    (entries_of h (newer ++ log)) (past_entries h newer log)

-- marks stay
newer_mark : (test : Mark → Bool) (newer log : List HostStep) → has_mark test log ≡ true
    → has_mark test (newer ++ log) ≡ true
newer_mark test [] log is = is
newer_mark test (e ∷ newer) log is = or_right (list_any test e.step.marks) (has_mark test (newer ++ log))
    (newer_mark test newer log is)

module _ (small large : ℕ → List HostStep) (past : (h : ℕ) → IsPast (small h) (large h)) where
  pub mark_more : (test : Mark → Bool) (h : ℕ) → has_mark test (small h) ≡ true → has_mark test (large h) ≡ true
  mark_more test h is = subst (λ log. has_mark test log ≡ true) (sym (past h).is)
      (newer_mark test (past h).newer (small h) is)

  pub marks_more : (test : Mark → Bool) (n : ℕ) → have_mark test n small ≡ true → have_mark test n large ≡ true
  marks_more test zero is = is
  marks_more test (suc n) is = by (or_cases (has_mark test (small n)) (have_mark test n small) is) (marks_more test n)
    where
      by : (has_mark test (small n) ≡ true) ⊎ (have_mark test n small ≡ true)
          → (have_mark test n small ≡ true → have_mark test n large ≡ true)
          → (has_mark test (large n) || have_mark test n large) ≡ true
      by (inl own) more = or_left (has_mark test (large n)) (have_mark test n large) (mark_more test n own)
      by (inr rest) more = or_right (has_mark test (large n)) (have_mark test n large) (more rest)

  kept_more : (n : ℕ) (entry : Entry) → is_kept n small entry ≡ true → is_kept n large entry ≡ true
  kept_more n entry = by (writes entry)
    where
      by : (b : Bool) → (if b then have_mark (is_applied entry.tx) n small else have_mark (is_reported entry.tx) n
          small) ≡ true
          → (if b then have_mark (is_applied entry.tx) n large else have_mark (is_reported entry.tx) n large) ≡ true
      by true is = marks_more (is_applied entry.tx) n is
      by false is = marks_more (is_reported entry.tx) n is

  entries_ordered : (n : ℕ) → AreOrdered (entries n large)
  entries_ordered zero = tt
  entries_ordered (suc n) = all_ordered (entries_of n (large n)) (entries n large) (entries_ordered n)

  entries_grow : (n : ℕ) → IsSublist (entries n small) (entries n large)
  entries_grow zero = refl
  entries_grow (suc n) =
      let p = past n in
      let older : IsPast (entries_of n (small n)) (entries_of n (large n)) =
      subst (λ log. IsPast (entries_of n (small n)) (entries_of n log)) (sym p.is) (past_entries n p.newer (small n)) in
      subst (λ own. IsSublist (insert_all (entries_of n (small n)) (entries n small))
      (insert_all own (entries n large))) (sym older.is)
      (all_more older.newer (entries_of n (small n)) (entries n small) (entries n large) (entries_grow n)
      (entries_ordered n))

  history_grows : (n : ℕ) → IsSublist (history n small) (history n large)
  history_grows n = filter_sublist (is_kept n small) (is_kept n large) (kept_more n) (entries n small) (entries n large)
      (entries_grow n)

pub histories_grow : HistoriesGrow
histories_grow start small large cut = history_grows small large cut (hosts start)
