-- A transaction begins once, and is decided at most once.
use Rattle.std.proofs.Common.{◌≡◌, ◌⊎◌, ℕ, Bool, true, false, List, [], ◌∷◌, ◌++◌, filter_map, refl, sym, ap, ◌∙◌}
use Rattle.std.proofs.Common.{subst, inl, inr}
use Rattle.std.specs.List.{cons_option}
use Rattle.std.specs.Prelude.{◌==◌, if◌then◌else◌, Option, None, Some}
use Rattle.run_theory.specs.LinkLaws.{IsClosingOf}
use Rattle.run_theory.specs.Links.{is_from, put, sent, taken}
use Rattle.run_theory.specs.Lists.{Each, IsIn, IsPast}
use Rattle.run_theory.specs.Runs.{AreLogs}
use Rattle.run_theory.proofs.LinkFacts.{link_projects}
use Rattle.run_theory.proofs.Runs.{taken-step}
use Rattle.world_core.specs.Steps.{Addressed, HostStep}
use Rattle.sig_core.specs.declared.member.TxId.{TxId}
use Rattle.sig_core.specs.declared.outs.Outgoing.{Outgoing}
use Rattle.sig_core.specs.Same.{same_tx}
use Rattle.node_core.specs.Requests.{is_request}
use Rattle.world_core.specs.Hosts.{Membership, first_membership, home, receiver}
use Rattle.world_core.specs.Machine.{addressed, all_addressed, counted, machine, sent_count, step_after}
use Rattle.world_core.specs.Start.{Start}
use Rattle.host_laws.specs.Kinds.{Kind, kind_of}
use Rattle.host_laws.specs.Kinds as kind
use Rattle.run_laws.proofs.causes.Causal.{AreCausal, sent_kinds}
use Rattle.sig_core.proofs.Keys.{same_tx-self}
use Rattle.host_laws.proofs.coordinator.Numbers.{AreApart, begun_by, put_kinds, verified_by}

-- the first of the list is kept, and of the rest this holds
record Keeps {A : Type 0} (S : List A → Type 0) (xs : List A) (y : A) : Type 0 where
  more : List A
  is : xs ≡ y ∷ more
  rest : S more

-- the first list is the second with some left out
abbrev Sub : {A : Type 0} → List A → List A → Type 0
Sub xs [] = xs ≡ []
Sub xs (y ∷ ys) = Sub xs ys ⊎ Keeps (λ more. Sub more ys) xs y

each_sub : {A : Type 0} (P : A → Type 0) (xs ys : List A) → Sub xs ys → Each P ys → Each P xs
each_sub P xs [] none all = subst (Each P) (sym none) tt
each_sub P xs (y ∷ ys) (inl sub) all = each_sub P xs ys sub all.1
each_sub P xs (y ∷ ys) (inr keeps) all =
    subst (Each P) (sym keeps.is) (all.0, each_sub P keeps.more ys keeps.rest all.1)

apart_sub : (xs ys : List TxId) → Sub xs ys → AreApart ys → AreApart xs
apart_sub xs [] none all = subst AreApart (sym none) tt
apart_sub xs (y ∷ ys) (inl sub) all = apart_sub xs ys sub all.1
apart_sub xs (y ∷ ys) (inr keeps) all =
    subst AreApart (sym keeps.is) (
      each_sub (λ v. same_tx v y ≡ false) keeps.more ys keeps.rest all.0,
      apart_sub
          keeps.more ys keeps.rest all.1,
    )

apart_newer : (newer xs : List TxId) → AreApart (newer ++ xs) → AreApart xs
apart_newer [] xs all = all
apart_newer (y ∷ newer) xs all = apart_newer newer xs all.1

apart_past : (xs ys : List TxId) → IsPast xs ys → AreApart ys → AreApart xs
apart_past xs ys past all = apart_newer past.newer xs (subst AreApart past.is all)

-- a kind of signal that is read off links
pub record Reads (read : Kind → Option TxId) (add : Kind → List TxId → List TxId) : Type 0 where
  pub adds : (k : Kind) (before : List TxId) → add k before ≡ cons_option (read k) before
  pub none : read kind.other ≡ None

abbrev pub begun_of : Kind → Option TxId
begun_of (kind.begun tx) = Some tx
begun_of k = None

abbrev pub verified_of : Kind → Option TxId
verified_of (kind.verified tx) = Some tx
verified_of k = None

pub begun_reads : Reads begun_of begun_by
begun_reads = record { adds = adds; none = refl }
  where
    adds : (k : Kind) (before : List TxId) → begun_by k before ≡ cons_option (begun_of k) before
    adds (kind.begun tx) before = refl
    adds _ before = refl

pub verified_reads : Reads verified_of verified_by
verified_reads = record { adds = adds; none = refl }
  where
    adds : (k : Kind) (before : List TxId) → verified_by k before ≡ cons_option (verified_of k) before
    adds (kind.verified tx) before = refl
    adds _ before = refl

module _ (start : Start) (read : Kind → Option TxId) (add : Kind → List TxId → List TxId) (reads : Reads read add) where
  abbrev pub read_of : Addressed → Option TxId
  read_of x = read (kind_of x.signal.body)

  -- what a link was given of the kind is part of what its sender said of it
  put_sub : (who : Membership) (h j stamp : ℕ) (count : ℕ → ℕ) (sends : List Outgoing) (before : List Addressed)
      (all : List TxId) → Sub (filter_map read_of before) all
      → Sub (filter_map read_of (put (machine start) j (all_addressed who h stamp count sends) before))
      (put_kinds add sends all)
  put_sub who h j stamp count [] before all sub = sub
  put_sub who h j stamp count (o ∷ more) before all sub =
      put_sub who h j stamp (counted (receiver who o.to) count) more
      (if receiver who o.to == j then one ∷ before else before) (add (kind_of o.body) all)
      (subst (Sub (filter_map read_of (if receiver who o.to == j then one ∷ before else before)))
      (sym (reads.adds (kind_of o.body) all)) (by (receiver who o.to == j) (read (kind_of o.body)) refl))
    where
      one : Addressed
      one = addressed who h stamp (count (receiver who o.to)) o

      by : (b : Bool) (r : Option TxId) → read (kind_of o.body) ≡ r
          → Sub (filter_map read_of (if b then one ∷ before else before)) (cons_option r all)
      by true None is = subst (λ w. Sub (cons_option w (filter_map read_of before)) all) (sym is) sub
      by true (Some tx) is = subst (λ w. Sub (cons_option w (filter_map read_of before)) (tx ∷ all)) (sym is)
          (inr (record { more = filter_map read_of before; is = refl; rest = sub }))
      by false None is = sub
      by false (Some tx) is = inl sub

  sent_sub : (h j : ℕ) (log : List HostStep)
      → Sub (filter_map read_of (sent (machine start) h j log)) (sent_kinds start add h log)
  sent_sub h j [] = refl
  sent_sub h j (e ∷ log) =
      put_sub (first_membership start) h j e.step.stamp (sent_count start h log)
      (step_after start h log e).effects.sends (sent (machine start) h j log) (sent_kinds start add h log)
      (sent_sub h j log)

  no_closing : (i j : ℕ) (log : List HostStep) (x : Addressed) → IsClosingOf (machine start) i j log x
      → read_of x ≡ None
  no_closing i j [] x c = absurd c
  no_closing i j (e ∷ log) x c = absurd cc

  -- so what was taken of it is apart
  taken_apart : (logs : ℕ → List HostStep) → AreLogs (machine start) logs → (i j : ℕ)
      → AreApart (sent_kinds start add i (logs i)) → AreApart (filter_map read_of (taken (machine start) i (logs j)))
  taken_apart logs right i j apart =
      apart_past (filter_map read_of (taken (machine start) i (logs j)))
      (filter_map read_of (sent (machine start) i j (logs i)))
      (link_projects (machine start) logs right i j read_of (λ x c. no_closing i j (logs i) x c))
      (apart_sub (filter_map read_of (sent (machine start) i j (logs i))) (sent_kinds start add i (logs i))
      (sent_sub i j (logs i)) apart)

  -- the step took one of the kind, of this transaction, from host i
  pub record Takes (i : ℕ) (tx : TxId) (e : HostStep) : Type 0 where
    pub from : e.step.taken.from.0 ≡ i
    pub asked : is_request e.step.taken.body ≡ false
    pub of : read (kind_of e.step.taken.body) ≡ Some tx

  taken_here : (i : ℕ) (tx : TxId) (e : HostStep) (log : List HostStep) → Takes i tx e
      → filter_map read_of (taken (machine start) i (e ∷ log)) ≡ tx ∷ filter_map read_of (taken (machine start) i log)
  taken_here i tx e log takes =
      ap (filter_map read_of) (taken-step (machine start) i e log takes.asked takes.from)
      ∙ ap (λ o. cons_option o (filter_map read_of (taken (machine start) i log))) takes.of

  taken_in : (P : TxId → Type 0) (i : ℕ) (tx : TxId) (e : HostStep) (log : List HostStep) → IsIn e log → Takes i tx e
      → Each P (filter_map read_of (taken (machine start) i log)) → P tx
  taken_in P i tx e [] inside takes all = absurd inside
  taken_in P i tx e (f ∷ log) (inl same) takes all =
      let part : Each P (tx ∷ filter_map read_of (taken (machine start) i log)) =
      subst (Each P) (taken_here i tx f log (subst (Takes i tx) same takes)) all in part.0
  taken_in P i tx e (f ∷ log) (inr rest) takes all =
      taken_in P i tx e log rest takes (less (is_from (machine start) i f) all)
    where
      less_by : (o : Option TxId) → Each P (cons_option o (filter_map read_of (taken (machine start) i log)))
          → Each P (filter_map read_of (taken (machine start) i log))
      less_by None all = all
      less_by (Some t) all = all.1

      less : (b : Bool)
          → Each P (filter_map read_of
          (if b then (machine start).signal f ∷ taken (machine start) i log else taken (machine start) i log))
          → Each P (filter_map read_of (taken (machine start) i log))
      less true all = less_by (read_of ((machine start).signal f)) all
      less false all = all

  pub one_taken : (i : ℕ) (tx : TxId) (a b : HostStep) (log : List HostStep)
      → AreApart (filter_map read_of (taken (machine start) i log)) → IsIn a log → IsIn b log → Takes i tx a
      → Takes i tx b → a ≡ b
  one_taken i tx a b [] apart left right at_a at_b = absurd left
  one_taken i tx a b (e ∷ log) apart (inl same) (inl other) at_a at_b = same ∙ sym other
  one_taken i tx a b (e ∷ log) apart (inl same) (inr rest) at_a at_b = absurd (twice (subst (Takes i tx) same at_a))
    where
      twice : Takes i tx e → ⊥
      twice at =
          let part : AreApart (tx ∷ filter_map read_of (taken (machine start) i log)) =
          subst AreApart (taken_here i tx e log at) apart in
          let off : same_tx tx tx ≡ false = taken_in (λ v. same_tx v tx ≡ false) i tx b log rest at_b part.0 in
          let both : true ≡ false = sym (same_tx-self tx) ∙ off in absurd cc
  one_taken i tx a b (e ∷ log) apart (inr rest) (inl same) at_a at_b = absurd (twice (subst (Takes i tx) same at_b))
    where
      twice : Takes i tx e → ⊥
      twice at =
          let part : AreApart (tx ∷ filter_map read_of (taken (machine start) i log)) =
          subst AreApart (taken_here i tx e log at) apart in
          let off : same_tx tx tx ≡ false = taken_in (λ v. same_tx v tx ≡ false) i tx a log rest at_a part.0 in
          let both : true ≡ false = sym (same_tx-self tx) ∙ off in absurd cc
  one_taken i tx a b (e ∷ log) apart (inr left) (inr right) at_a at_b =
      one_taken i tx a b log (less (is_from (machine start) i e) apart) left right at_a at_b
    where
      less_by : (o : Option TxId) → AreApart (cons_option o (filter_map read_of (taken (machine start) i log)))
          → AreApart (filter_map read_of (taken (machine start) i log))
      less_by None all = all
      less_by (Some t) all = all.1

      less : (c : Bool)
          → AreApart (filter_map read_of
          (if c then (machine start).signal e ∷ taken (machine start) i log else taken (machine start) i log))
          → AreApart (filter_map read_of (taken (machine start) i log))
      less true all = less_by (read_of ((machine start).signal e)) all
      less false all = all

-- each host said of each transaction once that it has begun, and asked for its epoch at most once
module _ (start : Start) (logs : ℕ → List HostStep) (right : AreLogs (machine start) logs)
    (causal : AreCausal start logs) where
  pub one_begun : (tx : TxId) (a b : HostStep) → IsIn a (logs 0) → IsIn b (logs 0)
      → Takes start begun_of begun_by begun_reads (home start tx) tx a
      → Takes start begun_of begun_by begun_reads (home start tx) tx b → a ≡ b
  one_begun tx a b left other at_a at_b =
      one_taken start begun_of begun_by begun_reads (home start tx) tx a b (logs 0)
      (taken_apart start begun_of begun_by begun_reads logs right (home start tx) 0
      (causal.knows (home start tx)).numbered.begun_apart) left other at_a at_b

  pub one_verified : (tx : TxId) (a b : HostStep) → IsIn a (logs (home start tx)) → IsIn b (logs (home start tx))
      → Takes start verified_of verified_by verified_reads (home start tx) tx a
      → Takes start verified_of verified_by verified_reads (home start tx) tx b → a ≡ b
  one_verified tx a b left other at_a at_b =
      one_taken start verified_of verified_by verified_reads (home start tx) tx a b (logs (home start tx))
      (taken_apart start verified_of verified_by verified_reads logs right (home start tx) (home start tx)
      (causal.knows (home start tx)).numbered.verified_apart) left other at_a at_b
