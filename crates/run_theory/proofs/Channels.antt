-- What the machine with channels admits is a run.
use Rattle.std.proofs.Common.{◌≡◌, ◌≢◌, ◌⊎◌, ◌==◌, ℕ, Bool, true, false, List, [], ◌∷◌, ◌++◌, if◌then◌else◌, refl, sym}
use Rattle.std.proofs.Common.{ap, ◌∙◌, subst, inl, inr, append_assoc, eq-eqb, append-nil}
use Rattle.std.proofs.lemmas.Bool.{cases_eq, cases_Bool}
use Rattle.run_theory.specs.Lists.{IsPast}
use Rattle.run_theory.specs.Machine.{Machine}
use Rattle.run_theory.specs.Links.{sent_by, put, sent, is_from, taken, Closes, IsGiven}
use Rattle.run_theory.specs.Logs.{IsRunning}
use Rattle.run_theory.specs.Runs.{log_of, Happens, Run}
use Rattle.run_theory.specs.Literal.{Channels, took, Takes, Drops, Moves, Leads}
use Rattle.run_theory.proofs.Pasts.{past_self}
use Rattle.run_theory.proofs.Links.{given_less, sent_by_stop}
use Rattle.run_theory.proofs.Runs.{log_of-own, log_of-other, if_true, if_false}

pub past_with : {A : Type 0} {xs ys : List A} (zs : List A) → IsPast xs ys → IsPast (xs ++ zs) (ys ++ zs)
past_with {A} {xs} zs p = record { newer = p.newer; is = ap (λ w. w ++ zs) p.is ∙ append_assoc p.newer xs zs }

module _ {E X : Type 0} (m : Machine E X) where
  -- what a step adds to what was taken from a link
  pub taken-next : (es : List E) (e : E) (i j : ℕ)
      → taken m i (log_of m (e ∷ es) j) ≡ took m i j e ++ taken m i (log_of m es j)
  taken-next es e i j = go (m.host e == j)
    where
      one : (b : Bool)
          → (if b then m.signal e ∷ taken m i (log_of m es j) else taken m i (log_of m es j))
          ≡ (if b then m.signal e ∷ [] else []) ++ taken m i (log_of m es j)
      one true = refl
      one false = refl

      go : (b : Bool)
          → taken m i (if b then e ∷ log_of m es j else log_of m es j)
          ≡ (if b then (if is_from m i e then m.signal e ∷ [] else []) else []) ++ taken m i (log_of m es j)
      go true = one (is_from m i e)
      go false = refl

  -- a step that was not asked for took its signal
  pub took-own : (e : E) → m.asked e ≡ false → took m (m.from (m.signal e)) (m.host e) e ≡ m.signal e ∷ []
  took-own e asked =
      let i = m.from (m.signal e) in
      let inner : List X = if is_from m i e then m.signal e ∷ [] else [] in
      if_true inner [] (eq-eqb (m.host e) (m.host e) refl) ∙ if_true (m.signal e ∷ []) [] (rw asked (eq-eqb i i refl))

  pub put-append : (j : ℕ) (xs before after : List X) → put m j xs (before ++ after) ≡ put m j xs before ++ after
  put-append j [] before after = refl
  put-append j (x ∷ xs) before after = go (m.to x == j) (put-append j xs)
    where
      go : (b : Bool) → ((v w : List X) → put m j xs (v ++ w) ≡ put m j xs v ++ w)
          → put m j xs (if b then x ∷ (before ++ after) else before ++ after)
          ≡ put m j xs (if b then x ∷ before else before) ++ after
      go true all = all (x ∷ before) after
      go false all = all before after

  pub sent_by_runs : (h : ℕ) (log : List E) (e : E) → m.stops e ≡ false → sent_by m h log e ≡ m.sends h log e
  sent_by_runs h log e runs = if_false [] (m.sends h log e) runs

  pub sent-runs : (i j : ℕ) (log : List E) (e : E) → m.stops e ≡ false
      → sent m i j (e ∷ log) ≡ put m j (m.sends i log e) (sent m i j log)
  sent-runs i j log e runs = ap (λ w. put m j w (sent m i j log)) (sent_by_runs i log e runs)

  pub sent-stops : (i j : ℕ) (log : List E) (e : E) → m.stops e ≡ true → sent m i j (e ∷ log) ≡ sent m i j log
  sent-stops i j log e stops = ap (λ w. put m j w (sent m i j log)) (sent_by_stop m i log e stops)

  -- what waits in a channel and what was taken from it are all that was sent; or the closing and some of it
  abbrev Held : ℕ → ℕ → List E → List X → Type 0
  Held i j [] xs = xs ≡ []
  Held i j (e ∷ log) xs =
      ((m.stops e ≡ false) × (xs ≡ sent m i j (e ∷ log))) ⊎ Closes m i log e j (sent m i j (e ∷ log)) xs

  held_given : (i j : ℕ) (log : List E) (xs : List X) → Held i j log xs → IsGiven m i j log xs
  held_given i j [] xs is = inl (subst (λ w. IsPast w []) (sym is) (past_self []))
  held_given i j (e ∷ log) xs (inl is) =
      inl (subst (λ w. IsPast w (sent m i j (e ∷ log))) (sym is.1) (past_self (sent m i j (e ∷ log))))
  held_given i j (e ∷ log) xs (inr c) = inr c

  held_running : (i j : ℕ) (log : List E) (xs : List X) → IsRunning m log → Held i j log xs → xs ≡ sent m i j log
  held_running i j [] xs runs is = is
  held_running i j (e ∷ log) xs runs (inl is) = is.1
  held_running i j (e ∷ log) xs runs (inr c) = absurd (cc (runs, c.stops))

  -- what was taken, with what waits, is the same before and after a signal is taken
  held_taken : (es : List E) (e : E) (before between : Channels X) (i j : ℕ) → Takes m e before between
      → before i j ++ taken m i (log_of m es j) ≡ between i j ++ taken m i (log_of m (e ∷ es) j)
  held_taken es e before between i j takes =
      ap (λ w. w ++ taken m i (log_of m es j)) (takes i j)
      ∙ (append_assoc (between i j) (took m i j e) (taken m i (log_of m es j)) ∙ ap (λ w. between i j ++ w)
      (sym (taken-next es e i j)))

  -- what a step puts on its own channel
  held_put : (log : List E) (e : E) (i j : ℕ) (between after : List X) (had : List X) → IsRunning m log
      → (m.stops e ≡ false → after ≡ put m j (m.sends i log e) between)
      → (m.stops e ≡ true → Drops m i log e j between after)
      → Held i j log (between ++ had) → Held i j (e ∷ log) (after ++ had)
  held_put log e i j between after had running runs stops held =
      go (cases_Bool (m.stops e)) (held_running i j log (between ++ had) running held)
    where
      go : (m.stops e ≡ true) ⊎ (m.stops e ≡ false) → between ++ had ≡ sent m i j log
          → Held i j (e ∷ log) (after ++ had)
      go (inl stop) is =
          let d = stops stop in
          inr (record {
            stops = stop;
            rest = d.kept ++ had;
            is = ap (λ w. w ++ had) d.is;
            past = subst (IsPast (d.kept ++ had)) (is ∙ sym (sent-stops i j log e stop)) (past_with had d.past);
          })
      go (inr run) is =
          inl (
            run,
            ap (λ w. w ++ had) (runs run) ∙ (sym (put-append j (m.sends i log e) between had) ∙
                (ap (put m j (m.sends i log e)) is ∙ sym (sent-runs i j log e run))),
          )

  held_next : (es : List E) (e : E) (before after : Channels X) → Moves m es e before after
      → ((i j : ℕ) → Held i j (log_of m es i) (before i j ++ taken m i (log_of m es j)))
      → (i j : ℕ) → Held i j (log_of m (e ∷ es) i) (after i j ++ taken m i (log_of m (e ∷ es) j))
  held_next es e before after moves held i j = go (cases_eq (m.host e) i)
    where
      had : List X
      had = taken m i (log_of m (e ∷ es) j)

      between : Held i j (log_of m es i) (moves.between i j ++ had)
      between = subst (Held i j (log_of m es i)) (held_taken es e before moves.between i j moves.takes) (held i j)

      own : (h : ℕ) → m.host e ≡ h → Held h j (log_of m es h) (moves.between h j ++ had)
          → Held h j (e ∷ log_of m es h) (after h j ++ had)
      own h at b =
          held_put (log_of m es h) e h j (moves.between h j) (after h j) had
          (subst (λ k. IsRunning m (log_of m es k)) at moves.step.runs)
          (λ run. subst (λ k. after k j ≡ put m j (m.sends k (log_of m es k) e) (moves.between k j)) at
          (moves.puts.runs run j))
          (λ stop. subst (λ k. Drops m k (log_of m es k) e j (moves.between k j) (after k j)) at
          (moves.puts.stops stop j))
          b

      go : (m.host e ≡ i) ⊎ (m.host e ≢ i) → Held i j (log_of m (e ∷ es) i) (after i j ++ had)
      go (inl at) = subst (λ w. Held i j w (after i j ++ had)) (sym (log_of-own m e es i at)) (own i at between)
      go (inr at) =
          subst (λ w. Held i j w (after i j ++ had)) (sym (log_of-other m e es i at))
          (subst (λ w. Held i j (log_of m es i) (w ++ had)) (sym (moves.puts.others i j at)) between)

  held_all : (es : List E) (channels : Channels X) → Leads m es channels → (i j : ℕ)
      → Held i j (log_of m es i) (channels i j ++ taken m i (log_of m es j))
  held_all [] channels leads = λ i j. append-nil (channels i j) ∙ leads i j
  held_all (e ∷ es) channels leads = held_next es e leads.0 channels leads.2 (held_all es leads.0 leads.1)

  happens_of_moves : (es : List E) (e : E) (before after : Channels X) → Leads m es before → Moves m es e before after
      → Happens m es e
  happens_of_moves es e before after leads moves =
      let i = m.from (m.signal e) in
      let j = m.host e in
      let had : List X = taken m i (log_of m es j) in
      record {
        step = moves.step;
        there = moves.there;
        takes = λ asked.
            let is : before i j ≡ moves.between i j ++ m.signal e ∷ [] =
            moves.takes i j ∙ ap (λ w. moves.between i j ++ w) (took-own e asked) in
            let all : before i j ++ had ≡ moves.between i j ++ (m.signal e ∷ had) =
            ap (λ w. w ++ had) is ∙ append_assoc (moves.between i j) (m.signal e ∷ []) had in
            let past : IsPast (m.signal e ∷ had) (before i j ++ had) = record { newer = moves.between i j; is = all } in
            given_less m i j (log_of m es i) past
            (held_given i j (log_of m es i) (before i j ++ had) (held_all es before leads i j));
      }

  -- what the machine with channels admits is a run
  pub run_of_channels : (es : List E) (channels : Channels X) → Leads m es channels → Run m es
  run_of_channels [] channels leads = tt
  run_of_channels (e ∷ es) channels leads =
      (run_of_channels es leads.0 leads.1, happens_of_moves es e leads.0 channels leads.1 leads.2)
