-- A number is confirmed once each part has confirmed as many fences as were asked for up to its promise.
use Rattle.std.proofs.Common.{◌≡◌, ◌⊎◌, ◌≤◌, ◌<◌, ◌+◌, ℕ, suc, Bool, true, false, List, [], ◌∷◌, ◌++◌, length, refl, ap}
use Rattle.std.proofs.Common.{sym, subst, arith, inl, inr, ◌∙◌}
use Rattle.std.specs.Prelude.{if◌then◌else◌}
use Rattle.frag_map.specs.Layout.{Layout}
use Rattle.run_theory.specs.Lists.{IsIn, IsPast}
use Rattle.run_theory.proofs.Pasts.{past_more, past_self}
use Rattle.sig_core.specs.declared.mark.Mark.{Mark}
use Rattle.sig_core.specs.declared.member.Member.{Member}
use Rattle.sig_core.specs.declared.signal.Body.{Body}
use Rattle.sig_core.specs.declared.signal.Body.TheVariants.{Membership}
use Rattle.sig_core.specs.declared.signal.membership.MembershipSignal.TheVariants.{FenceConf, PrepFailReq}
use Rattle.sig_core.specs.declared.signal.Signal.{Signal}
use Rattle.sig_core.specs.declared.view.View.{View}
use Rattle.sig_core.specs.Step.{Step}
use Rattle.qmgr_block.specs.declared.known.Known.{Known}
use Rattle.qmgr_block.specs.declared.promise.Promise.{Promise}
use Rattle.qmgr_block.specs.Install.{installed_row}
use Rattle.qmgr_block.specs.Laws.{Event, installs, takes}
use Rattle.qmgr_block.specs.Promise.{is_ldm, may_promise, promise_by, promise_row, promising, waiting_promise}
use Rattle.qmgr_block.specs.Promise.{waits_for, with_absent}
use Rattle.qmgr_block.specs.Qmgr.{qmgr_installed, qmgr_row, qmgr_table}
use Rattle.qmgr_block.specs.State.{QmgrState}
use Rattle.qmgr_block.specs.Suspects.{has_more}
use Rattle.view_laws.specs.Members.{confirmed_by, confirmed_of, known_of, state_of}
use Rattle.view_laws.proofs.fences.WaitInOrder.{InOrder, behind, drop_few, drop_left, drop_order, full, left, left_all}
use Rattle.view_laws.proofs.fences.WaitInOrder.{same, set_left, set_order, snoc_left, snoc_order, times, times_more}
use Rattle.view_laws.proofs.fences.WaitInOrder.{waits_some}
use Rattle.view_laws.proofs.fences.Confirming.{AreRanked, Confirms, HasRank, confirms, drop_ranked, first_rank, lessens}
use Rattle.view_laws.proofs.fences.Confirming.{row_confirms, set_ranked, stays}
use Rattle.qmgr_block.proofs.Outcomes.{is_of_promises}
use Rattle.view_laws.proofs.memberships.RowsAlike.{absent_like, promised_like}
use Rattle.view_laws.proofs.ballots.MadeSets.{in_either}
use Rattle.view_laws.proofs.memberships.Steps.{higher, row_steps}
use Rattle.view_laws.proofs.memberships.RowChanges.{moves_told_if}
use Rattle.sig_core.proofs.Firsts.{first_passes}

-- whether a signal asks for a set that is promised, and whether it confirms a fence of a part
abbrev pub asked_by : Known → Body → ℕ
asked_by k (Membership (PrepFailReq set)) = if may_promise k set then 1 else 0
asked_by k body = 0

abbrev pub confs_by : Bool → ℕ → Body → ℕ
confs_by c host (Membership FenceConf) = same (is_ldm host) c
confs_by c host body = 0

-- how many did
abbrev pub asked_at : QmgrState → Event → ℕ
asked_at s (takes x) = asked_by s.known x.body
asked_at s (installs view) = 0

abbrev pub asked_of : Member → Layout → List Event → ℕ
asked_of me layout [] = 0
asked_of me layout (event ∷ events) = asked_at (state_of me layout events) event + asked_of me layout events

abbrev pub confs_of : Bool → List Event → ℕ
confs_of c [] = 0
confs_of c (takes x ∷ events) = confs_by c x.from.0 x.body + confs_of c events
confs_of c (installs view ∷ events) = confs_of c events

-- what a signal does to the promises that wait
pub data Does (s : QmgrState) (host : ℕ) (body : Body) (step : Step QmgrState) : Type 0 where
  rests : step.state.promises ≡ s.promises → confirmed_by step.effects.marks ≡ [] → asked_by s.known body ≡ 0
      → ((c : Bool) → confs_by c host body ≡ 0) → Does s host body step
  asks : (set : View) (to : ℕ) → body ≡ Membership (PrepFailReq set) → asked_by s.known body ≡ 1
      → ((c : Bool) → confs_by c host body ≡ 0)
      → step.state.known.promised ≡ set → step.state.promises ≡ s.promises ++ waiting_promise set to ∷ []
      → confirmed_by step.effects.marks ≡ [] → Does s host body step
  hears : asked_by s.known body ≡ 0 → ((c : Bool) → confs_by c host body ≡ same (is_ldm host) c)
      → Confirms (is_ldm host) s.promises step.state.promises step.effects.marks → Does s host body step

module _ (s : QmgrState) (host : ℕ) where
  promise_by_does : (to : ℕ) (set : View) (may : Bool) → may_promise s.known set ≡ may
      → Does s host (Membership (PrepFailReq set)) (promise_by s to set may)
  promise_by_does to set true e =
      let k = s.known in
      let l = promising (with_absent k set) set in
      let above : k.promised.number < set.number = higher k set e in
      let moves =
      moves_told_if ⊥ k l set (promised_like k set) (omega (arith, above)) (has_more k l) in
      asks set to refl (ap (λ b. if b then 1 else 0) e) (λ c. refl) moves.promised refl moves.silent
  promise_by_does to set false e =
      let k = s.known in
      let l = with_absent k set in
      let moves = moves_told_if ⊥ k l k.promised (absent_like k set) (omega arith) (has_more k l) in
      rests refl moves.silent (ap (λ b. if b then 1 else 0) e) (λ c. refl)

  promise_does : (to : ℕ) (set : View) → Does s host (Membership (PrepFailReq set)) (promise_row s to set)
  unfolding promise_row
  promise_does to set = promise_by_does to set (may_promise s.known set) refl

-- whatever it takes
pub row_does : (s : QmgrState) (x : Signal) → Does s x.from.0 x.body (qmgr_row s x)
row_does s x = by x.body refl
  where
    -- the row of the signal is that of its body
    at_body : (body : Body) → x.body ≡ body
        → Does s x.from.0 body (qmgr_table s x.from.0 x.member x.view.number body)
        → Does s x.from.0 x.body (qmgr_row s x)
    at_body body is =
        subst (λ body. Does s x.from.0 body (qmgr_table s x.from.0 x.member x.view.number body)) (sym is)

    by : (body : Body) → x.body ≡ body → Does s x.from.0 x.body (qmgr_row s x)
    by (Membership (PrepFailReq set)) is =
        at_body (Membership (PrepFailReq set)) is (promise_does s x.from.0 x.member.node set)
    by (Membership FenceConf) is =
        at_body (Membership FenceConf) is (hears refl (λ c. refl) (row_confirms s x.from.0))
    by body is = other (row_steps s x).quiet
      where
        other : (is_of_promises x.body ≡ true)
            ⊎ (((qmgr_row s x).state.promises ≡ s.promises) × (confirmed_by (qmgr_row s x).effects.marks ≡ []))
            → Does s x.from.0 x.body (qmgr_row s x)
        other (inl of) = let of_body : is_of_promises body ≡ true = sym (ap is_of_promises is) ∙ of in absurd cc
        other (inr (same, silent)) =
            rests same silent (ap (asked_by s.known) is) (λ c. ap (confs_by c x.from.0) is)

times_rises : (c : Bool) (one two all : ℕ) → one + two ≤ all → times c one + times c two ≤ times c all
times_rises true one two all low = omega (arith, low)
times_rises false one two all low = omega (arith, low)

fresh_left : (c : Bool) (set : View) (to : ℕ) → left c (waiting_promise set to) ≡ full c
fresh_left true set to = refl
fresh_left false set to = refl

module _ (me : Member) (layout : Layout) where
  -- a set of this number was asked for and promised, and it was the one of this rank
  pub record IsAskedAs (events : List Event) (number rank : ℕ) : Type 0 where
    pub older : List Event
    pub x : Signal
    pub past : IsPast (takes x ∷ older) events
    pub now : asked_by (known_of me layout older) x.body ≡ 1
    pub number_is : (known_of me layout (takes x ∷ older)).promised.number ≡ number
    pub rank_is : asked_of me layout (takes x ∷ older) ≡ rank

  asked_later : (event : Event) (events : List Event) (number rank : ℕ) → IsAskedAs events number rank
      → IsAskedAs (event ∷ events) number rank
  asked_later event events number rank was = record {
    older = was.older;
    x = was.x;
    past = past_more event was.past;
    now = was.now;
    number_is = was.number_is;
    rank_is = was.rank_is;
  }

  rank_later : (event : Event) (events : List Event) (asked now number one other : ℕ) → asked + other ≤ now + one
      → HasRank (IsAskedAs events) asked number one → HasRank (IsAskedAs (event ∷ events)) now number other
  rank_later event events asked now number one other low has = record {
    rank = has.rank;
    is = asked_later event events number has.rank has.is;
    low = omega (arith, has.low, low);
  }

  ranked_later : (event : Event) (events : List Event) (asked now : ℕ) (ps : List Promise) → asked ≤ now
      → AreRanked (IsAskedAs events) asked ps → AreRanked (IsAskedAs (event ∷ events)) now ps
  ranked_later event events asked now [] low ranked = tt
  ranked_later event events asked now (p ∷ ps) low ranked = (
    rank_later event events asked now p.number (length ps) (length ps) (omega (arith, low)) ranked.0,
    ranked_later event events asked now ps low ranked.1,
  )

  snoc_length : (ps : List Promise) (p : Promise) → length (ps ++ p ∷ []) ≡ suc (length ps)
  snoc_length [] p = refl
  snoc_length (q ∷ ps) p = ap suc (snoc_length ps p)

  snoc_ranked : (event : Event) (events : List Event) (asked : ℕ) (p : Promise) (ps : List Promise)
      → HasRank (IsAskedAs (event ∷ events)) (suc asked) p.number 0 → AreRanked (IsAskedAs events) asked ps
      → AreRanked (IsAskedAs (event ∷ events)) (suc asked) (ps ++ p ∷ [])
  snoc_ranked event events asked p [] has ranked = (has, tt)
  snoc_ranked event events asked p (q ∷ ps) has ranked = (
    rank_later event events asked (suc asked) q.number (length ps) (length (ps ++ p ∷ []))
        (omega (arith, snoc_length ps p)) ranked.0,
    snoc_ranked event events asked p ps has ranked.1,
  )

  -- what is kept of the promises that wait
  record Waits (events : List Event) (ps : List Promise) : Type 0 where
    ranked : AreRanked (IsAskedAs events) (asked_of me layout events) ps
    order : (c : Bool) → InOrder c ps
    counts : (c : Bool) → times c (asked_of me layout events) ≤ left_all c ps + confs_of c events

  -- a number is confirmed where each part has confirmed that many fences
  pub record IsHeard (events : List Event) (number : ℕ) : Type 0 where
    pub rank : ℕ
    pub is : IsAskedAs events number rank
    pub counts : (c : Bool) → times c rank ≤ confs_of c events

  heard_later : (event : Event) (events : List Event) (number : ℕ) → IsHeard events number
      → IsHeard (event ∷ events) number
  heard_later (installs view) events number was = record {
    rank = was.rank;
    is = asked_later (installs view) events number was.rank was.is;
    counts = was.counts;
  }
  heard_later (takes x) events number was = record {
    rank = was.rank;
    is = asked_later (takes x) events number was.rank was.is;
    counts = λ c. omega (arith, was.counts c);
  }

  module _ (events : List Event) (x : Signal) where
    abbrev s : QmgrState
    s = state_of me layout events

    abbrev b : Bool
    b = is_ldm x.from.0

    abbrev asked : ℕ
    asked = asked_of me layout events

    same_counts : (n m : ℕ) → n ≡ m → (c : Bool) → times c n ≡ times c m
    same_counts n m is c = ap (times c) is

    confirms_waits : Waits events s.promises → asked_by s.known x.body ≡ 0
        → ((c : Bool) → confs_by c x.from.0 x.body ≡ same b c) → (now : List Promise) (marks : List Mark)
        → Confirms b s.promises now marks → Waits (takes x ∷ events) now
    confirms_waits was none one now marks (stays is marked) = record {
      ranked =
          subst (AreRanked (IsAskedAs (takes x ∷ events)) (asked_of me layout (takes x ∷ events))) (sym is)
          (ranked_later (takes x) events asked (asked_of me layout (takes x ∷ events)) s.promises (omega arith)
          was.ranked);
      order = λ c. subst (InOrder c) (sym is) (was.order c);
      counts = λ c.
          omega (
            arith,
            was.counts c,
            same_counts (asked_by s.known x.body + asked) asked (omega (arith, none)) c,
            ap (left_all c) is,
          );
    }
    confirms_waits was none one now marks (lessens p is now_is marked) =
        let some = waits_some b p (first_passes (waits_for b) s.promises p is) in
        record {
          ranked =
              subst (AreRanked (IsAskedAs (takes x ∷ events)) (asked_of me layout (takes x ∷ events))) (sym now_is)
              (set_ranked (IsAskedAs (takes x ∷ events)) (asked_of me layout (takes x ∷ events)) b p s.promises is
              (ranked_later (takes x) events asked (asked_of me layout (takes x ∷ events)) s.promises (omega arith)
              was.ranked));
          order = λ c. subst (InOrder c) (sym now_is) (set_order b c p some s.promises is (was.order c));
          counts = λ c.
              omega (
                arith,
                was.counts c,
                same_counts (asked_by s.known x.body + asked) asked (omega (arith, none)) c,
                ap (left_all c) now_is,
                set_left b c p some s.promises is,
                one c,
              );
        }
    confirms_waits was none one now marks (confirms p is fenced now_is marked) =
        let some = waits_some b p (first_passes (waits_for b) s.promises p is) in
        record {
          ranked =
              subst (AreRanked (IsAskedAs (takes x ∷ events)) (asked_of me layout (takes x ∷ events))) (sym now_is)
              (drop_ranked (IsAskedAs (takes x ∷ events)) (asked_of me layout (takes x ∷ events)) b s.promises
              (ranked_later (takes x) events asked (asked_of me layout (takes x ∷ events)) s.promises (omega arith)
              was.ranked));
          order = λ c. subst (InOrder c) (sym now_is) (drop_order b c p some fenced s.promises (was.order c));
          counts = λ c.
              omega (
                arith,
                was.counts c,
                same_counts (asked_by s.known x.body + asked) asked (omega (arith, none)) c,
                ap (left_all c) now_is,
                drop_left b c p some fenced s.promises is,
                one c,
              );
        }

    asks_waits : Waits events s.promises → (set : View) (to : ℕ) → asked_by s.known x.body ≡ 1
        → (known_of me layout (takes x ∷ events)).promised ≡ set
        → Waits (takes x ∷ events) (s.promises ++ waiting_promise set to ∷ [])
    asks_waits was set to now promised =
        let more : asked_of me layout (takes x ∷ events) ≡ suc asked = omega (arith, now) in
        let p : Promise = waiting_promise set to in
        record {
          ranked =
              subst (λ n. AreRanked (IsAskedAs (takes x ∷ events)) n (s.promises ++ p ∷ [])) (sym more)
              (snoc_ranked (takes x) events asked p s.promises
              (record {
                rank = suc asked;
                is = record {
                  older = events;
                  x = x;
                  past = past_self (takes x ∷ events);
                  now = now;
                  number_is = ap (λ (v : View). v.number) promised;
                  rank_is = more;
                };
                low = omega arith;
              })
              was.ranked);
          order = λ c. snoc_order c p (fresh_left c set to) s.promises (was.order c);
          counts = λ c.
              omega (
                arith,
                was.counts c,
                same_counts (asked_of me layout (takes x ∷ events)) (suc asked) more c,
                times_more c asked,
                snoc_left c p (fresh_left c set to) s.promises,
              );
        }

    rests_waits : Waits events s.promises → asked_by s.known x.body ≡ 0 → Waits (takes x ∷ events) s.promises
    rests_waits was none = record {
      ranked =
          ranked_later (takes x) events asked (asked_of me layout (takes x ∷ events)) s.promises (omega arith)
          was.ranked;
      order = was.order;
      counts = λ c.
          omega (arith, was.counts c, same_counts (asked_by s.known x.body + asked) asked (omega (arith, none)) c);
    }

    takes_waits : Waits events s.promises → Does s x.from.0 x.body (qmgr_row s x)
        → Waits (takes x ∷ events) (qmgr_row s x).state.promises
    takes_waits was (rests is marked none confs) =
        subst (Waits (takes x ∷ events)) (sym is) (rests_waits was none)
    takes_waits was (asks set to says now confs promised is marked) =
        subst (Waits (takes x ∷ events)) (sym is) (asks_waits was set to now promised)
    takes_waits was (hears none one does) =
        confirms_waits was none one (qmgr_row s x).state.promises (qmgr_row s x).effects.marks does

    -- what is confirmed
    no_number : (number : ℕ) (numbers : List ℕ) → numbers ≡ [] → IsIn number numbers → ⊥
    no_number number numbers is there = subst (IsIn number) is there

    confirms_heard : Waits events s.promises → ((c : Bool) → confs_by c x.from.0 x.body ≡ same b c)
        → (number : ℕ) (now : List Promise) (marks : List Mark) → Confirms b s.promises now marks
        → IsIn number (confirmed_by marks) → IsHeard (takes x ∷ events) number
    confirms_heard was one number now marks (stays is marked) there =
        absurd (no_number number (confirmed_by marks) marked there)
    confirms_heard was one number now marks (lessens p is now_is marked) there =
        absurd (no_number number (confirmed_by marks) marked there)
    confirms_heard was one number now marks (confirms p is fenced now_is marked) there =
        by (subst (IsIn number) marked there)
      where
        by : IsIn number (p.number ∷ []) → IsHeard (takes x ∷ events) number
        by (inr none) = absurd none
        by (inl at) =
            let some = waits_some b p (first_passes (waits_for b) s.promises p is) in
            let has = first_rank (IsAskedAs events) asked b p s.promises is was.ranked in
            record {
              rank = has.rank;
              is =
                  subst (λ n. IsAskedAs (takes x ∷ events) n has.rank) (sym at)
                  (asked_later (takes x) events p.number has.rank has.is);
              counts = λ c.
                  omega (
                    arith,
                    was.counts c,
                    times_rises c has.rank (behind b s.promises) asked has.low,
                    drop_left b c p some fenced s.promises is,
                    drop_few b c p some fenced s.promises is (was.order c),
                    one c,
                  );
            }

    takes_heard : Waits events s.promises → (number : ℕ) → Does s x.from.0 x.body (qmgr_row s x)
        → IsIn number (confirmed_by (qmgr_row s x).effects.marks) → IsHeard (takes x ∷ events) number
    takes_heard was number (rests is marked none confs) there = absurd (no_number number _ marked there)
    takes_heard was number (asks set to says now confs promised is marked) there =
        absurd (no_number number _ marked there)
    takes_heard was number (hears none one does) there =
        confirms_heard was one number (qmgr_row s x).state.promises (qmgr_row s x).effects.marks does there

  waits_along : (events : List Event) → Waits events (state_of me layout events).promises
  waits_along [] = record { ranked = tt; order = λ c. tt; counts = λ c. none c }
    where
      none : (c : Bool) → times c 0 ≤ 0 + 0
      none true = omega arith
      none false = omega arith
  waits_along (takes x ∷ events) = takes_waits events x (waits_along events) (row_does (state_of me layout events) x)
  waits_along (installs view ∷ events) =
      let was = waits_along events in
      let same_asked : asked_of me layout (installs view ∷ events) ≡ asked_of me layout events = omega arith in
      record {
        ranked =
            ranked_later (installs view) events (asked_of me layout events)
            (asked_of me layout (installs view ∷ events)) (state_of me layout events).promises (omega arith) was.ranked;
        order = was.order;
        counts = λ c. omega (arith, was.counts c, ap (times c) same_asked);
      }

  installs_none : (s : QmgrState) (view : View) → confirmed_by (qmgr_installed s view).effects.marks ≡ []
  unfolding installed_row
  installs_none s view = refl

  pub confirmed_heard : (events : List Event) (number : ℕ) → IsIn number (confirmed_of me layout events)
      → IsHeard events number
  confirmed_heard [] number there = absurd there
  confirmed_heard (takes x ∷ events) number there =
      by
      (in_either number (confirmed_by (qmgr_row (state_of me layout events) x).effects.marks)
      (confirmed_of me layout events) there)
      (confirmed_heard events number)
    where
      by : IsIn number (confirmed_by (qmgr_row (state_of me layout events) x).effects.marks)
          ⊎ IsIn number (confirmed_of me layout events)
          → (IsIn number (confirmed_of me layout events) → IsHeard events number)
          → IsHeard (takes x ∷ events) number
      by (inl now) later =
          takes_heard events x (waits_along events) number (row_does (state_of me layout events) x) now
      by (inr was) later = heard_later (takes x) events number (later was)
  confirmed_heard (installs view ∷ events) number there =
      heard_later (installs view) events number
      (confirmed_heard events number
      (subst (λ numbers. IsIn number (numbers ++ confirmed_of me layout events))
      (installs_none (state_of me layout events) view) there))
