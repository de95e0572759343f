-- What a takeover was told of while it gathers is among what is gathered, until it is ordered anew.
use Rattle.std.proofs.Common.{◌≡◌, ◌⊎◌, ◌++◌, ◌∙◌, ◌||◌, ℕ, Bool, true, false, List, [], ◌∷◌, inl, inr, refl, sym, ap}
use Rattle.std.proofs.Common.{subst}
use Rattle.std.proofs.lemmas.Bool.{true≢false, or_left, or_right}
use Rattle.std.specs.List.{list_any}
use Rattle.std.specs.Prelude.{Option, None, Some, slice_get}
use Rattle.run_theory.specs.Lists.{IsIn}
use Rattle.sig_core.specs.declared.member.TxId.{TxId}
use Rattle.sig_core.specs.declared.signal.Body.{Body}
use Rattle.sig_core.specs.declared.signal.Body.TheVariants.{Takeover}
use Rattle.sig_core.specs.declared.signal.Signal.{Signal}
use Rattle.sig_core.specs.declared.signal.takeover.RecordState.{RecordState}
use Rattle.sig_core.specs.declared.signal.takeover.TakeoverSignal.TheVariants.{LqhTransConf, TakeoverOrd}
use Rattle.sig_core.specs.Same.{same_key}
use Rattle.sig_core.specs.Step.{Step}
use Rattle.sig_core.proofs.Keys.{same_key-self}
use Rattle.takeover_block.specs.declared.gathered.Gathered.{Gathered}
use Rattle.takeover_block.specs.declared.stage.Stage.{Stage}
use Rattle.takeover_block.specs.declared.stage.Stage.TheVariants as stage
use Rattle.takeover_block.specs.Gather.{tell_by, tell_row}
use Rattle.takeover_block.specs.Gathered.{first_epoch, noted, told_epoch, told_first, told_more}
use Rattle.takeover_block.specs.Keys.{has_key, with_key, with_key_if}
use Rattle.takeover_block.specs.Rule.{entering, finishing, ruling, ruling_by, way_by, way_of}
use Rattle.takeover_block.specs.State.{TakeoverState, with_gathered}
use Rattle.takeover_block.specs.Takeover.{takeover_row, takeover_table}
use Rattle.takeover_block.proofs.EachTakeover.{is_gathering, takeover_each}
use Rattle.takeover_block.proofs.NotedLemmas.{IsMore, IsNew, noted_is}

-- keys

any_left : (p : List ℕ → Bool) (xs ys : List (List ℕ)) → list_any p xs ≡ true → list_any p (xs ++ ys) ≡ true
any_left p [] ys is = absurd (true≢false (sym is))
any_left p (x ∷ xs) ys is = by (p x) is (any_left p xs ys)
  where
    by : (b : Bool) → (b || list_any p xs) ≡ true → (list_any p xs ≡ true → list_any p (xs ++ ys) ≡ true)
        → (b || list_any p (xs ++ ys)) ≡ true
    by true is rest = refl
    by false is rest = rest is

any_last : (p : List ℕ → Bool) (xs : List (List ℕ)) (y : List ℕ) → p y ≡ true → list_any p (xs ++ y ∷ []) ≡ true
any_last p [] y is = or_left (p y) false is
any_last p (x ∷ xs) y is = or_right (p x) (list_any p (xs ++ y ∷ [])) (any_last p xs y is)

key_stays : (keys : List (List ℕ)) (more key : List ℕ) → has_key keys key ≡ true
    → has_key (with_key keys more) key ≡ true
unfolding with_key
key_stays keys more key is = by (has_key keys more)
  where
    by : (b : Bool) → has_key (with_key_if keys more b) key ≡ true
    by true = is
    by false = any_left (same_key key) keys (more ∷ []) is

key_comes : (keys : List (List ℕ)) (key : List ℕ) → has_key (with_key keys key) key ≡ true
unfolding with_key
key_comes keys key = by (has_key keys key) refl
  where
    by : (b : Bool) → has_key keys key ≡ b → has_key (with_key_if keys key b) key ≡ true
    by true is = is
    by false is = any_last (same_key key) keys key (same_key-self key)

-- places

in_between : (g w : Gathered) (front back : List Gathered) → IsIn g (front ++ back) → IsIn g (front ++ w ∷ back)
in_between g w [] back there = inr there
in_between g w (x ∷ front) back (inl is) = inl is
in_between g w (x ∷ front) back (inr there) = inr (in_between g w front back there)

in_middle : (w : Gathered) (front back : List Gathered) → IsIn w (front ++ w ∷ back)
in_middle w [] back = inl refl
in_middle w (x ∷ front) back = inr (in_middle w front back)

-- an entry stands in a list where one is put in the place of another, unless it is the other
in_other : (g v w : Gathered) (front back : List Gathered) → IsIn g (front ++ v ∷ back)
    → (g ≡ v) ⊎ IsIn g (front ++ w ∷ back)
in_other g v w [] back (inl is) = inl is
in_other g v w [] back (inr there) = inr (inr there)
in_other g v w (x ∷ front) back (inl is) = inr (inl is)
in_other g v w (x ∷ front) back (inr there) = by (in_other g v w front back there)
  where
    by : (g ≡ v) ⊎ IsIn g (front ++ w ∷ back) → (g ≡ v) ⊎ IsIn g (x ∷ front ++ w ∷ back)
    by (inl is) = inl is
    by (inr there) = inr (inr there)

-- the transaction is gathered with the key, and where this is so as one that is committed
pub record HasNoted (tx : TxId) (key : List ℕ) (Marked : Type 0) (gs : List Gathered) : Type 0 where
  pub entry : Gathered
  pub there : IsIn entry gs
  pub same : entry.tx ≡ tx
  pub key_in : has_key entry.keys key ≡ true
  pub committed : Marked → entry.epoch ≡ None → ⊥

first_some : (epoch more : Option ℕ) → (epoch ≡ None → ⊥) → first_epoch epoch more ≡ None → ⊥
first_some None more some is = some refl
first_some (Some epoch) more some is = some is

first_told : (epoch more : Option ℕ) → (more ≡ None → ⊥) → first_epoch epoch more ≡ None → ⊥
first_told None more some is = some is
first_told (Some epoch) more some is = absurd cc

module _ (gs : List Gathered) (tx : TxId) (key : List ℕ) (epoch : Option ℕ) where
  -- it is, once it is told
  pub noted_has : HasNoted tx key (epoch ≡ None → ⊥) (noted gs tx key epoch)
  noted_has = by (noted_is gs tx key epoch)
    where
      by : IsNew tx key epoch gs (noted gs tx key epoch) ⊎ IsMore tx key epoch gs (noted gs tx key epoch)
          → HasNoted tx key (epoch ≡ None → ⊥) (noted gs tx key epoch)
      by (inl new) = record {
        entry = told_first tx key epoch;
        there = subst (IsIn (told_first tx key epoch)) (sym new.after)
            (in_middle (told_first tx key epoch) new.front new.back);
        same = refl;
        key_in = or_left (same_key key key) false (same_key-self key);
        committed = λ marked none. marked none;
      }
      by (inr more) = record {
        entry = told_more more.own key epoch;
        there = subst (IsIn (told_more more.own key epoch)) (sym more.after)
            (in_middle (told_more more.own key epoch) more.front more.back);
        same = more.same;
        key_in = key_comes more.own.keys key;
        committed = λ marked none. first_told more.own.epoch epoch marked none;
      }

  -- and stays so where more is told
  pub noted_keeps : (u : TxId) (k : List ℕ) (Marked : Type 0) → HasNoted u k Marked gs
      → HasNoted u k Marked (noted gs tx key epoch)
  noted_keeps u k Marked has = by (noted_is gs tx key epoch)
    where
      at : IsIn has.entry (noted gs tx key epoch) → HasNoted u k Marked (noted gs tx key epoch)
      at there = record {
        entry = has.entry;
        there = there;
        same = has.same;
        key_in = has.key_in;
        committed = has.committed;
      }

      by : IsNew tx key epoch gs (noted gs tx key epoch) ⊎ IsMore tx key epoch gs (noted gs tx key epoch)
          → HasNoted u k Marked (noted gs tx key epoch)
      by (inl new) =
          at (subst (IsIn has.entry) (sym new.after)
          (in_between has.entry (told_first tx key epoch) new.front new.back (subst (IsIn has.entry) new.is has.there)))
      by (inr more) =
          which (in_other has.entry more.own (told_more more.own key epoch) more.front more.back
          (subst (IsIn has.entry) more.is has.there))
        where
          which : (has.entry ≡ more.own) ⊎ IsIn has.entry (more.front ++ told_more more.own key epoch ∷ more.back)
              → HasNoted u k Marked (noted gs tx key epoch)
          which (inl is) = record {
            entry = told_more more.own key epoch;
            there = subst (IsIn (told_more more.own key epoch)) (sym more.after)
                (in_middle (told_more more.own key epoch) more.front more.back);
            same = ap (λ (g : Gathered). g.tx) (sym is) ∙ has.same;
            key_in = key_stays more.own.keys key k (ap (λ (g : Gathered). has_key g.keys k) (sym is) ∙ has.key_in);
            committed = λ marked none.
                first_some more.own.epoch epoch
                (λ (nothing : more.own.epoch ≡ None). has.committed marked
                (ap (λ (g : Gathered). g.epoch) is ∙ nothing)) none;
          }
          which (inr there) = at (subst (IsIn has.entry) (sym more.after) there)

-- while it gathers
abbrev pub NotedAt : TxId → List ℕ → Type 0 → TakeoverState → Type 0
NotedAt tx key Marked s = is_gathering s.stage ≡ true → HasNoted tx key Marked s.gathered

module _ (tx : TxId) (key : List ℕ) (Marked : Type 0) where
  abbrev At : TakeoverState → Type 0
  At s = NotedAt tx key Marked s

  gathers : (s : TakeoverState) (n : ℕ) → s.stage ≡ stage.Gathering n → is_gathering s.stage ≡ true
  gathers s n is = ap is_gathering is

  ruled : (s : TakeoverState) → At (ruling s).state
  unfolding ruling entering way_of
  ruled s = by (slice_get s.gathered 0)
    where
      way : (g : Gathered) (o : Option ℕ) → is_gathering (way_by s.layout g.keys o) ≡ true → ⊥
      way g None is = true≢false (sym is)
      way g (Some epoch) is = true≢false (sym is)

      by : (o : Option Gathered) → At (ruling_by s o).state
      by None = λ is. absurd (true≢false (sym is))
      by (Some g) = λ is. absurd (way g g.epoch is)

  finished : (s : TakeoverState) → At (finishing s).state
  unfolding finishing
  finished s = ruled (with_gathered s _)

  -- so it stays at each signal but for an order
  pub notes_stay : (s : TakeoverState) (x : Signal) → (x.body ≡ Takeover TakeoverOrd → ⊥) → NotedAt tx key Marked s
      → NotedAt tx key Marked (takeover_row s x).state
  unfolding entering
  notes_stay s x unordered has =
      takeover_each s (λ (step : Step TakeoverState). At step.state) x.body (record {
        stays = λ other. has;
        untold = λ tx key state epoch is idle. has;
        unended = λ is idle. has;
        orders = λ is some. absurd (unordered is);
        orders_nobody = λ is none. absurd (unordered is);
        asks = λ place n is due at. has;
        tells = λ u k state epoch n is at gathering.
            noted_keeps s.gathered u k (told_epoch state epoch) tx key Marked (has (gathers s n at));
        ends = λ n is at more gathering. has (gathers s n at);
        all_end = λ n is at last. ruled s;
        commits = λ tx key g e n is first at more gathering. absurd (true≢false (sym gathering));
        all_commit = λ tx key g e n is first at last gathering. absurd (true≢false (sym gathering));
        completes = λ tx key g e n is first at more gathering. absurd (true≢false (sym gathering));
        all_complete = λ tx key g e n is first at last. finished s;
        aborts = λ tx key g n is first at more gathering. absurd (true≢false (sym gathering));
        all_abort = λ tx key g n is first at last. finished s;
        goes_on = λ tx place g is due work first. has;
      })

-- and so it is of what a signal tells
pub telling_noted : (s : TakeoverState) (x : Signal) (tx : TxId) (key : List ℕ) (state : RecordState) (epoch : ℕ)
    → x.body ≡ Takeover (LqhTransConf tx key state epoch)
    → NotedAt tx key (told_epoch state epoch ≡ None → ⊥) (takeover_row s x).state
unfolding tell_row
telling_noted s x tx key state epoch told =
    subst (λ (body : Body). NotedAt tx key (told_epoch state epoch ≡ None → ⊥) (takeover_table s body).state) (sym told)
    own
  where
    own : NotedAt tx key (told_epoch state epoch ≡ None → ⊥) (tell_row s tx key state epoch).state
    own = by s.stage refl
      where
        idle : (at : Stage) → s.stage ≡ at → is_gathering at ≡ false
            → NotedAt tx key (told_epoch state epoch ≡ None → ⊥) s
        idle at is off gathering = absurd (true≢false (sym gathering ∙ (ap is_gathering is ∙ off)))

        by : (at : Stage) → s.stage ≡ at
            → NotedAt tx key (told_epoch state epoch ≡ None → ⊥) (tell_by s tx key (told_epoch state epoch) at).state
        by (stage.Gathering n) is = λ gathering. noted_has s.gathered tx key (told_epoch state epoch)
        by stage.Resting is = idle stage.Resting is refl
        by (stage.Committing e n) is = idle (stage.Committing e n) is refl
        by (stage.Completing e n) is = idle (stage.Completing e n) is refl
        by (stage.Aborting n) is = idle (stage.Aborting n) is refl
