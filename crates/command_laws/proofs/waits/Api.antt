-- The API while it asks what its own transaction waits for.
use Rattle.std.proofs.Common.{◌≡◌, ◌⊎◌, ◌<◌, ◌≤◌, ◌+◌, ℕ, true, false, List, [], ◌∷◌, ◌++◌, length, refl, sym, ap, ◌∙◌}
use Rattle.std.proofs.Common.{subst, inl, inr, length-append, arith, Bool}
use Rattle.std.proofs.lemmas.Bool.Decides.{nat_tests}
use Rattle.std.specs.Prelude.{◌==◌, ◌&&◌, if◌then◌else◌, nat_lt, Option, None, Some, is_some, not, position, slice_get}
use Rattle.std.specs.Prelude.{slice_set}
use Rattle.sig_core.proofs.Keys.{same_tx-self}
use Rattle.sig_core.specs.declared.member.TxId.{TxId}
use Rattle.sig_core.specs.declared.place.BlockId.{BlockId}
use Rattle.sig_core.specs.declared.place.BlockId.TheVariants as block
use Rattle.sig_core.specs.declared.place.Place.{Place}
use Rattle.sig_core.specs.declared.reply.ApiReply.TheVariants.{Pending}
use Rattle.sig_core.specs.declared.reply.Waiting.TheVariants.{HeldBy}
use Rattle.sig_core.specs.declared.request.ApiReq.TheVariants as request
use Rattle.sig_core.specs.declared.signal.Body.{Body}
use Rattle.sig_core.specs.declared.signal.Body.TheVariants.{Client}
use Rattle.sig_core.specs.declared.signal.client.ClientSignal.TheVariants.{LqhWaitConf, LqhWaitReq, TcWaitConf}
use Rattle.sig_core.specs.declared.signal.client.ClientSignal.TheVariants.{TcWaitReq}
use Rattle.sig_core.specs.declared.signal.Signal.{Signal}
use Rattle.sig_core.specs.Place.{coordinator_of}
use Rattle.sig_core.specs.Same.{same_tx}
use Rattle.sig_core.specs.Step.{Step, sending, stay}
use Rattle.api_block.specs.Api.{api_table, request_row}
use Rattle.api_block.specs.declared.opened.OpenTransaction.{OpenTransaction}
use Rattle.api_block.specs.Opened.{behind, has_tx, if_inside, if_there, is_tx, is_unanswered, own_place, where_at}
use Rattle.api_block.specs.State.{ApiState, changing}
use Rattle.api_block.specs.Wait.{behind_row, name_of, pending_by, pending_if, pending_row, waits_if, waits_row}
use Rattle.node_core.specs.Blocks.{api_of, has_api}
use Rattle.node_core.specs.declared.host.Host.{Host}
use Rattle.node_core.specs.Row.{row}
use Rattle.world_core.specs.Hosts.{home}
use Rattle.world_core.specs.Start.{Start}
use Rattle.run_theory.specs.Counts.{one_if, tally}
use Rattle.host_laws.proofs.hosts.LinkCounts.{to_host}
use Rattle.host_laws.proofs.rows.Operations.{true_and}
use Rattle.host_laws.proofs.coordinator.Moves.{same_tx-is}
use Rattle.host_laws.proofs.coordinator.Sends.{eqb-self}
use Rattle.host_laws.proofs.api.Wishes.{is_api, sends_of}
use Rattle.command_laws.proofs.hosts.BlockSteps.{api_host, api_seen}
use Rattle.command_laws.proofs.hosts.Places.{split_at, split_get, split_position, split_set}
use Rattle.command_laws.proofs.waits.Rows.{is_other, is_passed, is_telling_who, is_wait_of, is_want, passed_of}
use Rattle.command_laws.specs.Served.{name_of_tx}

-- the API's own transaction: the one at the place that the last command is about
pub record IsOwn (s : ApiState) (t : OpenTransaction) : Type 0 where
  pub front : List OpenTransaction
  pub back : List OpenTransaction
  pub is : s.opened ≡ front ++ t ∷ back
  pub own : s.own ≡ Some (length front)

pub own_found : (s : ApiState) (t : OpenTransaction) → where_at s.opened None (λ at (x : OpenTransaction). Some x)
    (own_place s) ≡ Some t → IsOwn s t
own_found s t = by s.own refl
  where
    at_get : (at : ℕ) → s.own ≡ Some at → (x : Option OpenTransaction) → slice_get s.opened at ≡ x
        → if_there None (λ (y : OpenTransaction). Some y) x ≡ Some t → IsOwn s t
    at_get at own None get found = cc
    at_get at own (Some y) get found =
        let same : Some y ≡ Some t = found in
        let there = split_at s.opened at t (get ∙ same) in
        record { front = there.front; back = there.back; is = there.is; own = own ∙ ap Some (sym there.place) }

    at_place : (at : ℕ) → s.own ≡ Some at → (b : Bool)
        → where_at s.opened None (λ at (x : OpenTransaction). Some x) (if b then Some at else None) ≡ Some t → IsOwn s t
    at_place at own true is = at_get at own (slice_get s.opened at) refl is
    at_place at own false is = cc

    by : (o : Option ℕ) → s.own ≡ o
        → where_at s.opened None (λ at (x : OpenTransaction). Some x) (if_inside s.opened o) ≡ Some t → IsOwn s t
    by None own is = cc
    by (Some at) own is = at_place at own (nat_lt at (length s.opened)) is

module _ (front : List OpenTransaction) (t : OpenTransaction) (back : List OpenTransaction) (own : Option ℕ) where
  -- the transaction stands there, and waits for that one as far as it is known
  pub record IsAboutOne (ahead : Option TxId) (s : ApiState) : Type 0 where
    pub own_is : s.own ≡ own
    pub opened : s.opened ≡ front ++ behind t ahead ∷ back

  module _ (tx : TxId) (own_tx : t.tx ≡ Some tx) (none : tally (has_tx tx) front ≡ 0) where
    has : (ahead : Option TxId) → has_tx tx (behind t ahead) ≡ true
    has ahead = ap (is_tx tx) own_tx ∙ same_tx-self tx

    -- it is told for whom the transaction waits
    behind_is : (s : ApiState) (ahead : Option TxId) (next : TxId) → s.opened ≡ front ++ behind t ahead ∷ back
        → behind_row s tx next ≡ changing s (length front) (behind t (Some next))
    unfolding behind_row
    behind_is s ahead next opened =
        ap (where_at s.opened s (λ at (x : OpenTransaction). changing s at (behind x (Some next))))
        (ap (position (has_tx tx)) opened ∙ split_position (has_tx tx) front (behind t ahead) back none (has ahead))
        ∙ ap (if_there s (λ (x : OpenTransaction). changing s (length front) (behind x (Some next))))
        (ap (λ xs. slice_get xs (length front)) opened ∙ split_get front (behind t ahead) back)

    -- at a question or an answer to one
    pub record StaysAbout (ahead : Option TxId) (to : Place) (body : Body) (step : Step ApiState) : Type 0 where
      pub now : Option TxId
      pub about : IsAboutOne now step.state
      pub plain : sends_of (is_other tx) step.effects.sends ≡ 0
      pub kept : is_some ahead ≡ true → is_some now ≡ true
      pub told : is_passed tx to body ≡ true → is_some now ≡ true
      pub from : (who : TxId) → now ≡ Some who → (ahead ≡ Some who) ⊎ (is_telling_who tx who to body ≡ true)

    module _ (s : ApiState) (ahead : Option TxId) (to : Place) (body : Body) (about : IsAboutOne ahead s) where
      pub stays_about : (is_passed tx to body ≡ true → ⊥) → StaysAbout ahead to body (stay s)
      stays_about off = record {
        now = ahead;
        about = about;
        plain = refl;
        kept = λ some. some;
        told = λ on. absurd (off on);
        from = λ who is. inl is;
      }

      told_who : (who next one : TxId) → same_tx one tx ≡ true → next ≡ who → Client (TcWaitConf one next) ≡ body
          → to.block ≡ block.Api → is_telling_who tx who to body ≡ true
      told_who who next one w which same there =
          ap (λ c. is_telling_who tx who to c) (sym same)
          ∙ ap (λ b. is_api b && (same_tx one tx && same_tx next who)) there ∙ ap (λ b. b && same_tx next who) w
          ∙ ap (λ v. same_tx v who) which ∙ same_tx-self who

      not_passed : passed_of tx body ≡ false → is_passed tx to body ≡ true → ⊥
      not_passed off on = by (is_api to.block) on
        where
          by : (b : Bool) → (b && passed_of tx body) ≡ true → ⊥
          by true e = let both : false ≡ true = sym off ∙ e in cc
          by false e = cc

      told_now : (b : Body) → b ≡ body → is_wait_of tx b ≡ true → to.block ≡ block.Api
          → StaysAbout ahead to body (api_table s b)
      told_now (Client (TcWaitConf one next)) same w there = record {
        now = Some next;
        about = record {
          own_is = ap (λ v. (behind_row s v next).own) (same_tx-is one tx w)
              ∙ ap (λ (r : ApiState). r.own) (behind_is s ahead next about.opened) ∙ about.own_is;
          opened = ap (λ v. (behind_row s v next).opened) (same_tx-is one tx w)
              ∙ ap (λ (r : ApiState). r.opened) (behind_is s ahead next about.opened)
              ∙ ap (λ xs. slice_set xs (length front) (behind t (Some next))) about.opened
              ∙ split_set front (behind t ahead) back (behind t (Some next));
        };
        plain = refl;
        kept = λ some. refl;
        told = λ on. refl;
        from = λ who now_is. inr (told_who who next one w (let which : next ≡ who = cc in which) same there);
      }
      told_now (Client (TcWaitReq one)) same w there = stays_about (not_passed (ap (λ b. passed_of tx b) (sym same)))
      told_now (Client (LqhWaitReq one key)) same w there =
          stays_about (not_passed (ap (λ b. passed_of tx b) (sym same)))
      told_now (Client (LqhWaitConf one next)) same w there =
          stays_about (not_passed (ap (λ b. passed_of tx b) (sym same)))
      told_now _ same w there = cc

    -- so it is of the shell's host
    pub about_waits : (g : Host) (ahead : Option TxId) (x : Signal) → has_api g ≡ true → is_wait_of tx x.body ≡ true
        → IsAboutOne ahead (api_of g) → StaysAbout ahead x.to x.body (api_seen (row g x))
    about_waits g ahead x runs e about =
        api_host (StaysAbout ahead x.to x.body) g x runs (told_now (api_of g) ahead x.to x.body about x.body refl e)
        (λ off. stays_about (api_of g) ahead x.to x.body about (λ on. off (for_api x.to.block on)))
      where
        for_api : (at : BlockId) → (is_api at && passed_of tx x.body) ≡ true → at ≡ block.Api
        for_api block.Api e = refl
        for_api _ e = cc

inside : (front : List OpenTransaction) (u : OpenTransaction) (back : List OpenTransaction)
    → nat_lt (length front) (length (front ++ u ∷ back)) ≡ true
inside front u back =
    let low : length front < length (front ++ u ∷ back) = omega (arith, length-append front (u ∷ back)) in
    grind (arith, nat_tests, low)

own_place_is : (s : ApiState) (front : List OpenTransaction) (u : OpenTransaction) (back : List OpenTransaction)
    → s.own ≡ Some (length front) → s.opened ≡ front ++ u ∷ back → own_place s ≡ Some (length front)
own_place_is s front u back own opened =
    ap (if_inside s.opened) own ∙ ap (λ xs. if nat_lt (length front) (length xs) then Some (length front) else None)
    opened
    ∙ ap (λ b. if b then Some (length front) else None) (inside front u back)

-- the question for whom it waits
pub record IsAsking (start : Start) (s : ApiState) (t : OpenTransaction) (tx : TxId) (i : IsOwn s t)
    (step : Step ApiState) : Type 0 where
  pub about : IsAboutOne i.front t i.back (Some (length i.front)) None step.state
  pub plain : sends_of (is_other tx) step.effects.sends ≡ 0
  pub wants : 1 ≤ sends_of (to_host start (home start tx) (is_want tx)) step.effects.sends

waits_is : (s : ApiState) (t : OpenTransaction) (tx : TxId) (i : IsOwn s t) → is_unanswered t.doing ≡ true
    → t.tx ≡ Some tx
    → waits_row s ≡ sending (changing s (length i.front) (behind t None)) (coordinator_of tx) (Client (TcWaitReq tx))
unfolding waits_row
waits_is s t tx i waits own =
    ap (where_at s.opened (stay s) (λ at (x : OpenTransaction). waits_if s at x (is_unanswered x.doing) x.tx))
    (own_place_is s i.front t i.back i.own i.is)
    ∙ ap (if_there (stay s) (λ (x : OpenTransaction). waits_if s (length i.front) x (is_unanswered x.doing) x.tx))
    (ap (λ xs. slice_get xs (length i.front)) i.is ∙ split_get i.front t i.back)
    ∙ ap (λ b. waits_if s (length i.front) t b t.tx) waits ∙ ap (waits_if s (length i.front) t true) own

pub waits_first : (start : Start) (s : ApiState) (t : OpenTransaction) (tx : TxId) (i : IsOwn s t)
    → is_unanswered t.doing ≡ true → t.tx ≡ Some tx → IsAsking start s t tx i (request_row s request.Waits)
unfolding request_row
waits_first start s t tx i waits own = record {
  about = record {
    own_is = ap (λ (r : Step ApiState). r.state.own) now ∙ i.own;
    opened = ap (λ (r : Step ApiState). r.state.opened) now
        ∙ ap (λ xs. slice_set xs (length i.front) (behind t None)) i.is ∙ split_set i.front t i.back (behind t None);
  };
  plain = ap (λ (r : Step ApiState). sends_of (is_other tx) r.effects.sends) now
      ∙ ap (λ b. one_if (not b) + 0) (same_tx-self tx);
  wants = omega (
    arith,
    ap (λ (r : Step ApiState). sends_of (to_host start (home start tx) (is_want tx)) r.effects.sends) now,
    ap one_if (true_and (home start tx == home start tx) (same_tx tx tx) (eqb-self (home start tx)) (same_tx-self tx)),
  );
}
  where
    now : waits_row s ≡ sending (changing s (length i.front) (behind t None)) (coordinator_of tx)
        (Client (TcWaitReq tx))
    now = waits_is s t tx i waits own

pending_by_replies : (s : ApiState) (holder name : Option ℕ) (one : Option TxId)
    → (pending_by s holder name one).state.replies ≡ s.replies ++ Pending name (HeldBy holder) ∷ []
pending_by_replies s holder None (Some tx) = refl
pending_by_replies s holder None None = refl
pending_by_replies s holder (Some name) one = refl

-- the row of the question for replies, where it is known for whom the transaction waits
pub pending_is : (s : ApiState) (front : List OpenTransaction) (t : OpenTransaction) (back : List OpenTransaction)
    (next : TxId) → IsAboutOne front t back (Some (length front)) (Some next) s → is_unanswered t.doing ≡ true
    → pending_row s ≡ pending_by s (name_of s next) t.name t.tx
unfolding pending_row
pending_is s front t back next about waits =
    ap (where_at s.opened (stay s) (λ at (x : OpenTransaction). pending_if s x (is_unanswered x.doing) x.ahead))
    (own_place_is s front (behind t (Some next)) back about.own_is about.opened)
    ∙ ap (if_there (stay s) (λ (x : OpenTransaction). pending_if s x (is_unanswered x.doing) x.ahead))
    (ap (λ xs. slice_get xs (length front)) about.opened ∙ split_get front (behind t (Some next)) back)
    ∙ ap (λ b. pending_if s (behind t (Some next)) b (Some next)) waits

-- the question for replies tells the holder
pub record TellsHolder (name : Option ℕ) (ahead : Option TxId) (s : ApiState) (step : Step ApiState) : Type 0 where
  pub who : TxId
  pub is : ahead ≡ Some who
  pub told : step.state.replies ≡ s.replies ++ Pending name (HeldBy (name_of_tx s.opened who)) ∷ []

pub pending_first : (s : ApiState) (front : List OpenTransaction) (t : OpenTransaction) (back : List OpenTransaction)
    (ahead : Option TxId) → IsAboutOne front t back (Some (length front)) ahead s
    → is_unanswered t.doing ≡ true → is_some ahead ≡ true
    → TellsHolder t.name ahead s (request_row s request.Pending)
unfolding request_row
pending_first s front t back ahead about waits some = by ahead some about
  where
    by : (a : Option TxId) → is_some a ≡ true → IsAboutOne front t back (Some (length front)) a s
        → TellsHolder t.name a s (pending_row s)
    by None off about = cc
    by (Some next) on about = record {
      who = next;
      is = refl;
      told = ap (λ (r : Step ApiState). r.state.replies) now ∙ pending_by_replies s (name_of s next) t.name t.tx;
    }
      where
        now : pending_row s ≡ pending_by s (name_of s next) t.name t.tx
        now = pending_is s front t back next about waits
