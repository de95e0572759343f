-- Lists of entries in their order: one is told by its entries of each host.
use Rattle.std.proofs.Common.{◌≡◌, ◌≢◌, ◌⊎◌, ◌==◌, ◌&&◌, ◌||◌, ◌++◌, ℕ, Bool, true, false, nat_lt, cond, List, [], ◌∷◌}
use Rattle.std.proofs.Common.{filter, reverse, if◌then◌else◌, refl, ap, sym, subst, ◌∙◌, inl, inr, arith}
use Rattle.std.proofs.lemmas.Bool.{cases_eq, eq-eqb, ne_eqb, true≢false}
use Rattle.std.proofs.lemmas.Bool.Decides.{nat_tests}
use Rattle.std.proofs.lemmas.List.{append-nil, reverse-append}
use Rattle.std.proofs.lemmas.List.Elements.{filter-append}
use Rattle.run_theory.proofs.Pasts.{each_append, each_filter, each_in, each_map}
use Rattle.run_theory.specs.Lists.{Each, IsIn}
use Rattle.sig_core.specs.declared.entry.Entry.{Entry}
use Rattle.world_core.specs.Entries.{insert, insert_all, is_before}
use Rattle.view_laws.proofs.eras.SoundLogs.{in_filter}

-- the order, over plain numbers
before_not : (v w s t h k : ℕ) → (nat_lt v w || ((v == w) && (nat_lt s t || ((s == t) && nat_lt h k)))) ≡ true
    → (nat_lt w v || ((w == v) && (nat_lt t s || ((t == s) && nat_lt k h)))) ≡ false
before_not v w s t h k e = grind (arith, nat_tests)

-- what isn't before one isn't before what that isn't before
not_through : (v w u s t r h k l : ℕ)
    → (nat_lt w v || ((w == v) && (nat_lt t s || ((t == s) && nat_lt k h)))) ≡ false
    → (nat_lt u w || ((u == w) && (nat_lt r t || ((r == t) && nat_lt l k)))) ≡ false
    → (nat_lt u v || ((u == v) && (nat_lt r s || ((r == s) && nat_lt l h)))) ≡ false
not_through v w u s t r h k l e f = grind (arith, nat_tests)

-- what is before one is before what isn't before that
before_through : (v w u s t r h k l : ℕ)
    → (nat_lt v w || ((v == w) && (nat_lt s t || ((s == t) && nat_lt h k)))) ≡ true
    → (nat_lt u w || ((u == w) && (nat_lt r t || ((r == t) && nat_lt l k)))) ≡ false
    → (nat_lt v u || ((v == u) && (nat_lt s r || ((s == r) && nat_lt h l)))) ≡ true
before_through v w u s t r h k l e f = grind (arith, nat_tests)

-- of two of different hosts one is before the other
same_host : (v w s t h k : ℕ) → (nat_lt v w || ((v == w) && (nat_lt s t || ((s == t) && nat_lt h k)))) ≡ false
    → (nat_lt w v || ((w == v) && (nat_lt t s || ((t == s) && nat_lt k h)))) ≡ false → h ≡ k
same_host v w s t h k e f = grind (arith, nat_tests)

-- no entry of the list is before this one, and this one is before none
abbrev pub AreNotBefore : Entry → List Entry → Type 0
AreNotBefore a xs = Each (λ b. is_before b a ≡ false) xs

abbrev pub IsBeforeNone : Entry → List Entry → Type 0
IsBeforeNone a xs = Each (λ b. is_before a b ≡ false) xs

-- the earliest first, and the latest first
abbrev pub IsRising : List Entry → Type 0
IsRising [] = Unit {0}
IsRising (a ∷ xs) = AreNotBefore a xs × IsRising xs

abbrev pub IsFalling : List Entry → Type 0
IsFalling [] = Unit {0}
IsFalling (a ∷ xs) = IsBeforeNone a xs × IsFalling xs

abbrev pub of_host : ℕ → List Entry → List Entry
of_host h xs = filter (λ a. a.host.0 == h) xs

-- lists turned round
pub turned : {A : Type 0} (a : A) (xs : List A) → reverse (a ∷ xs) ≡ reverse xs ++ a ∷ []
turned a xs = reverse-append (a ∷ []) xs

-- what is so of each is so of each of the list turned round
pub each_turned : {A : Type 0} (P : A → Type 0) (xs : List A) → Each P xs → Each P (reverse xs)
each_turned P [] all = tt
each_turned P (x ∷ xs) all =
    subst (Each P) (sym (turned x xs)) (each_append P (reverse xs) (x ∷ []) (each_turned P xs all.1) (all.0, tt))

filter_turned : {A : Type 0} (p : A → Bool) (xs : List A) → filter p (reverse xs) ≡ reverse (filter p xs)
filter_turned p [] = refl
filter_turned {A} p (x ∷ xs) =
    ap (filter p) (turned x xs) ∙ filter-append p (reverse xs) (x ∷ []) ∙ go (p x) (filter_turned p xs)
  where
    go : (b : Bool) → filter p (reverse xs) ≡ reverse (filter p xs)
        → filter p (reverse xs) ++ cond b (x ∷ []) [] ≡ reverse (cond b (x ∷ filter p xs) (filter p xs))
    go true rest = ap (λ ys. ys ++ x ∷ []) rest ∙ sym (turned x (filter p xs))
    go false rest = append-nil (filter p (reverse xs)) ∙ rest

pub turned_of_host : (h : ℕ) (xs : List Entry) → of_host h (reverse xs) ≡ reverse (of_host h xs)
turned_of_host h xs = filter_turned (λ (a : Entry). a.host.0 == h) xs

rising_behind : (xs : List Entry) (a : Entry) → IsRising xs → IsBeforeNone a xs → IsRising (xs ++ a ∷ [])
rising_behind [] a rising none = (tt, tt)
rising_behind (b ∷ xs) a rising none =
    let first = each_append (λ (c : Entry). is_before c b ≡ false) xs (a ∷ []) rising.0 (none.0, tt) in
    (first, rising_behind xs a rising.1 none.1)

pub rises_turned : (xs : List Entry) → IsFalling xs → IsRising (reverse xs)
rises_turned [] falling = tt
rises_turned (a ∷ xs) falling =
    subst IsRising (sym (turned a xs))
    (rising_behind (reverse xs) a (rises_turned xs falling.1)
    (each_turned (λ (b : Entry). is_before a b ≡ false) xs falling.0))

pub falling_of_host : (h : ℕ) (xs : List Entry) → IsFalling xs → IsFalling (of_host h xs)
falling_of_host h [] falling = tt
falling_of_host h (a ∷ xs) falling = go (a.host.0 == h) (falling_of_host h xs falling.1)
  where
    go : (b : Bool) → IsFalling (of_host h xs) → IsFalling (cond b (a ∷ of_host h xs) (of_host h xs))
    go true rest = (each_filter (λ (b : Entry). is_before a b ≡ false) (λ c. c.host.0 == h) xs falling.0, rest)
    go false rest = rest

-- an entry is put at its place
each_insert : (P : Entry → Type 0) (a : Entry) (xs : List Entry) → P a → Each P xs → Each P (insert a xs)
each_insert P a [] holds all = (holds, tt)
each_insert P a (b ∷ xs) holds all = go (is_before a b) (each_insert P a xs holds all.1)
  where
    go : (test : Bool) → Each P (insert a xs) → Each P (if test then a ∷ b ∷ xs else b ∷ insert a xs)
    go true more = (holds, all)
    go false more = (all.0, more)

pub rising_insert : (a : Entry) (xs : List Entry) → IsRising xs → IsRising (insert a xs)
rising_insert a [] rising = (tt, tt)
rising_insert a (b ∷ xs) rising = go (is_before a b) refl (rising_insert a xs rising.1)
  where
    none_before : is_before a b ≡ true → AreNotBefore a (b ∷ xs)
    none_before e =
        let first : is_before b a ≡ false = before_not a.view b.view a.stamp b.stamp a.host.0 b.host.0 e in
        let rest : AreNotBefore a xs =
        each_map (λ (c : Entry). is_before c b ≡ false) (λ (c : Entry). is_before c a ≡ false) xs
        (λ c. not_through a.view b.view c.view a.stamp b.stamp c.stamp a.host.0 b.host.0 c.host.0 first) rising.0 in
        (first, rest)

    go : (test : Bool) → is_before a b ≡ test → IsRising (insert a xs)
        → IsRising (if test then a ∷ b ∷ xs else b ∷ insert a xs)
    go true e more = (none_before e, rising)
    go false e more = (each_insert (λ (c : Entry). is_before c b ≡ false) a xs e rising.0, more)

-- and what that does to the entries of a host
module _ (h : ℕ) where
  kept : (a : Entry) (xs : List Entry) → a.host.0 ≡ h → of_host h (a ∷ xs) ≡ a ∷ of_host h xs
  kept a xs same = ap (λ b. cond b (a ∷ of_host h xs) (of_host h xs)) (eq-eqb a.host.0 h same)

  left_out : (a : Entry) (xs : List Entry) → a.host.0 ≢ h → of_host h (a ∷ xs) ≡ of_host h xs
  left_out a xs apart = ap (λ b. cond b (a ∷ of_host h xs) (of_host h xs)) (ne_eqb a.host.0 h apart)

  insert_other : (a : Entry) (xs : List Entry) → a.host.0 ≢ h → of_host h (insert a xs) ≡ of_host h xs
  insert_other a [] apart = left_out a [] apart
  insert_other a (b ∷ xs) apart = go (is_before a b) (insert_other a xs apart)
    where
      go : (test : Bool) → of_host h (insert a xs) ≡ of_host h xs
          → of_host h (if test then a ∷ b ∷ xs else b ∷ insert a xs) ≡ of_host h (b ∷ xs)
      go true more = left_out a (b ∷ xs) apart
      go false more = ap (λ ys. cond (b.host.0 == h) (b ∷ ys) ys) more

  -- an entry that is before all, but before none of its host, has none of its host behind it
  none_behind : (a : Entry) (xs : List Entry) → Each (λ c. is_before a c ≡ true) xs → IsBeforeNone a (of_host h xs)
      → of_host h xs ≡ []
  none_behind a [] all none = refl
  none_behind a (c ∷ xs) all none = go (c.host.0 == h) none (none_behind a xs all.1)
    where
      go : (b : Bool) → IsBeforeNone a (cond b (c ∷ of_host h xs) (of_host h xs))
          → (IsBeforeNone a (of_host h xs) → of_host h xs ≡ []) → cond b (c ∷ of_host h xs) (of_host h xs) ≡ []
      go true none rest = absurd (true≢false (sym all.0 ∙ none.0))
      go false none rest = rest none

  insert_own : (a : Entry) (xs : List Entry) → a.host.0 ≡ h → IsRising xs → IsBeforeNone a (of_host h xs)
      → of_host h (insert a xs) ≡ of_host h xs ++ a ∷ []
  insert_own a [] same rising none = kept a [] same
  insert_own a (b ∷ xs) same rising none = go (is_before a b) refl (insert_own a xs same rising.1)
    where
      later : is_before a b ≡ true → Each (λ c. is_before a c ≡ true) (b ∷ xs)
      later e =
          let rest : Each (λ c. is_before a c ≡ true) xs =
          each_map (λ (c : Entry). is_before c b ≡ false) (λ (c : Entry). is_before a c ≡ true) xs
          (λ c. before_through a.view b.view c.view a.stamp b.stamp c.stamp a.host.0 b.host.0 c.host.0 e) rising.0 in
          (e, rest)

      behind : (own : Bool) → IsBeforeNone a (cond own (b ∷ of_host h xs) (of_host h xs))
          → (IsBeforeNone a (of_host h xs) → of_host h (insert a xs) ≡ of_host h xs ++ a ∷ [])
          → cond own (b ∷ of_host h (insert a xs)) (of_host h (insert a xs))
          ≡ cond own (b ∷ of_host h xs) (of_host h xs) ++ a ∷ []
      behind true none rest = ap (λ ys. b ∷ ys) (rest none.1)
      behind false none rest = rest none

      go : (test : Bool) → is_before a b ≡ test
          → (IsBeforeNone a (of_host h xs) → of_host h (insert a xs) ≡ of_host h xs ++ a ∷ [])
          → of_host h (if test then a ∷ b ∷ xs else b ∷ insert a xs) ≡ of_host h (b ∷ xs) ++ a ∷ []
      go true e rest =
          let empty : of_host h (b ∷ xs) ≡ [] = none_behind a (b ∷ xs) (later e) none in
          kept a (b ∷ xs) same ∙ ap (λ ys. a ∷ ys) empty ∙ sym (ap (λ ys. ys ++ a ∷ []) empty)
      go false e rest = behind (b.host.0 == h) none rest

  abbrev AreOf : ℕ → List Entry → Type 0
  AreOf k xs = Each (λ (a : Entry). a.host.0 ≡ k) xs

  pub insert_others : (k : ℕ) (more into : List Entry) → k ≢ h → AreOf k more
      → of_host h (insert_all more into) ≡ of_host h into
  insert_others k [] into apart all = refl
  insert_others k (a ∷ more) into apart all =
      insert_other a (insert_all more into) (λ same. apart (sym all.0 ∙ same)) ∙ insert_others k more into apart all.1

pub rising_all : (more into : List Entry) → IsRising into → IsRising (insert_all more into)
rising_all [] into rising = rising
rising_all (a ∷ more) into rising = rising_insert a (insert_all more into) (rising_all more into rising)

-- the entries of a log, the newest first, come behind each other
pub insert_owns : (h : ℕ) (more into : List Entry) → AreOf h h more → IsFalling more → IsRising into
    → of_host h into ≡ [] → of_host h (insert_all more into) ≡ reverse more
insert_owns h [] into all falling rising empty = empty
insert_owns h (a ∷ more) into all falling rising empty =
    let before : of_host h (insert_all more into) ≡ reverse more =
    insert_owns h more into all.1 falling.1 rising empty in
    insert_own h a (insert_all more into) all.0 (rising_all more into rising)
    (subst (IsBeforeNone a) (sym before) (each_turned (λ (b : Entry). is_before a b ≡ false) more falling.0))
    ∙ ap (λ ys. ys ++ a ∷ []) before ∙ sym (turned a more)

-- two lists in order that have the same entries of each host are the same
abbrev SameHosts : List Entry → List Entry → Type 0
SameHosts xs ys = (h : ℕ) → of_host h xs ≡ of_host h ys

heads : (x y : Entry) (xs ys : List Entry) → x ∷ xs ≡ y ∷ ys → (x ≡ y) × (xs ≡ ys)
heads x y xs ys e = (cc, cc)

tails_same : (a b : Entry) (xs ys : List Entry) → a ≡ b → SameHosts (a ∷ xs) (b ∷ ys) → SameHosts xs ys
tails_same a b xs ys same all h = by (cases_eq a.host.0 h)
  where
    turned_all : of_host h (a ∷ xs) ≡ of_host h (a ∷ ys)
    turned_all = subst (λ c. of_host h (a ∷ xs) ≡ of_host h (c ∷ ys)) (sym same) (all h)

    by : (a.host.0 ≡ h) ⊎ (a.host.0 ≢ h) → of_host h xs ≡ of_host h ys
    by (inl own) =
        (heads a a (of_host h xs) (of_host h ys) (sym (kept h a xs own) ∙ turned_all ∙ kept h a ys own)).1
    by (inr other) = sym (left_out h a xs other) ∙ turned_all ∙ left_out h a ys other

-- the first of one list, if the other begins with one of another host, is in the rest of that
elsewhere : (a b : Entry) (xs ys : List Entry) → b.host.0 ≢ a.host.0 → SameHosts (a ∷ xs) (b ∷ ys) → IsIn a ys
elsewhere a b xs ys apart all =
    let h = a.host.0 in
    in_filter (λ (c : Entry). c.host.0 == h) a ys
    (subst (IsIn a) (sym (kept h a xs refl) ∙ all h ∙ left_out h b ys apart) (inl refl))

pub same_order : (xs ys : List Entry) → IsRising xs → IsRising ys → SameHosts xs ys → xs ≡ ys
same_order [] [] up rises all = refl
same_order [] (b ∷ ys) up rises all = absurd (cc (all b.host.0 ∙ kept b.host.0 b ys refl))
same_order (a ∷ xs) [] up rises all = absurd (cc (sym (kept a.host.0 a xs refl) ∙ all a.host.0))
same_order (a ∷ xs) (b ∷ ys) up rises all = by (cases_eq a.host.0 b.host.0) (same_order xs ys up.1 rises.1)
  where
    same_first : a.host.0 ≡ b.host.0 → a ≡ b
    same_first same =
        (heads a b (of_host b.host.0 xs) (of_host b.host.0 ys)
        (sym (kept b.host.0 a xs same) ∙ all b.host.0 ∙ kept b.host.0 b ys refl)).0

    by : (a.host.0 ≡ b.host.0) ⊎ (a.host.0 ≢ b.host.0) → (SameHosts xs ys → xs ≡ ys) → a ∷ xs ≡ b ∷ ys
    by (inl same) rest =
        let first : a ≡ b = same_first same in
        let behind : xs ≡ ys = rest (tails_same a b xs ys first all) in
        ap (λ c. c ∷ xs) first ∙ ap (λ zs. b ∷ zs) behind
    by (inr apart) rest =
        let there : IsIn a ys = elsewhere a b xs ys (λ same. apart (sym same)) all in
        let here : IsIn b xs = elsewhere b a ys xs apart (λ h. sym (all h)) in
        let not_first : is_before a b ≡ false = each_in (λ (c : Entry). is_before c b ≡ false) a ys rises.0 there in
        let nor_other : is_before b a ≡ false = each_in (λ (c : Entry). is_before c a ≡ false) b xs up.0 here in
        absurd (apart (same_host a.view b.view a.stamp b.stamp a.host.0 b.host.0 not_first nor_other))
