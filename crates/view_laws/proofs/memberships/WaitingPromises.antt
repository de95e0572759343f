-- Promises that wait for fences: each was asked for by the node to which it is to be confirmed.
use Rattle.std.proofs.Common.{◌≡◌, ◌<◌, ◌==◌, ℕ, Bool, true, false, List, [], ◌∷◌, ◌++◌, refl, sym, subst, arith, inl}
use Rattle.std.proofs.Common.{inr}
use Rattle.std.proofs.lemmas.Bool.{eqb-true, false≢true}
use Rattle.std.specs.Prelude.{if◌then◌else◌, Option, None, Some, position, slice_get}
use Rattle.frag_map.specs.Layout.{Layout}
use Rattle.run_theory.specs.Lists.{Each, IsIn}
use Rattle.run_theory.proofs.EachSent.{each_get, each_removed, each_set}
use Rattle.run_theory.proofs.Pasts.{each_append, each_map, in_append}
use Rattle.sig_core.specs.declared.member.Member.{Member}
use Rattle.sig_core.specs.declared.signal.Body.{Body}
use Rattle.sig_core.specs.declared.signal.Body.TheVariants.{Membership}
use Rattle.sig_core.specs.declared.signal.membership.MembershipSignal.{MembershipSignal}
use Rattle.sig_core.specs.declared.signal.membership.MembershipSignal.TheVariants.{FenceConf, PrepFailReq}
use Rattle.sig_core.specs.declared.signal.Signal.{Signal}
use Rattle.sig_core.specs.declared.view.View.{View}
use Rattle.qmgr_block.specs.declared.promise.Promise.{Promise}
use Rattle.qmgr_block.specs.Laws.{Event, installs, takes}
use Rattle.qmgr_block.specs.Promise.{confirmed_at, confirmed_if, confirmed_place, fence_row, is_fenced, is_ldm, less}
use Rattle.qmgr_block.specs.Promise.{may_promise, promise_by, promise_row, promising, waits_for, with_absent}
use Rattle.qmgr_block.specs.Qmgr.{membership_table, qmgr_row, qmgr_table}
use Rattle.qmgr_block.specs.State.{QmgrState}
use Rattle.qmgr_block.specs.Suspects.{has_more}
use Rattle.view_laws.specs.Ballots.{Promised}
use Rattle.view_laws.specs.HostEvents.{taken_in}
use Rattle.view_laws.specs.Members.{promises_of, state_of}
use Rattle.view_laws.proofs.memberships.RowsAlike.{promised_like}
use Rattle.view_laws.proofs.memberships.RowChanges.{moves_told_if}
use Rattle.view_laws.proofs.memberships.Steps.{higher}

-- W number to: what is so of a promise of the number that is to be confirmed to the node
module _ (W : ℕ → ℕ → Type 0) where
  abbrev pub IsSuch : Promise → Type 0
  IsSuch promise = W promise.number promise.to

  -- fences
  fence_if_such : (s : QmgrState) (at : ℕ) (promise : Promise) (fenced : Bool) → IsSuch promise → Each IsSuch s.promises
      → Each IsSuch (confirmed_if s at promise fenced).state.promises
  fence_if_such s at promise true is all = each_removed IsSuch s.promises at all
  fence_if_such s at promise false is all = each_set IsSuch s.promises at promise all is

  less_such : (ldm : Bool) (promise : Promise) → IsSuch promise → IsSuch (less ldm promise)
  less_such true promise is = is
  less_such false promise is = is

  fence_at_such : (s : QmgrState) (ldm : Bool) (at : ℕ) (promise : Option Promise) → slice_get s.promises at ≡ promise
      → Each IsSuch s.promises → Each IsSuch (confirmed_at s ldm at promise).state.promises
  fence_at_such s ldm at None e all = all
  fence_at_such s ldm at (Some promise) e all =
      fence_if_such s at (less ldm promise) (is_fenced (less ldm promise))
      (less_such ldm promise (each_get IsSuch s.promises at promise all e)) all

  fence_place_such : (s : QmgrState) (ldm : Bool) (at : Option ℕ) → Each IsSuch s.promises
      → Each IsSuch (confirmed_place s ldm at).state.promises
  fence_place_such s ldm None all = all
  fence_place_such s ldm (Some at) all = fence_at_such s ldm at (slice_get s.promises at) refl all

  fence_such : (s : QmgrState) (host : ℕ) → Each IsSuch s.promises → Each IsSuch (fence_row s host).state.promises
  unfolding fence_row
  fence_such s host all = fence_place_such s (is_ldm host) (position (waits_for (is_ldm host)) s.promises) all

  -- promises
  promise_by_such : (s : QmgrState) (to : ℕ) (set : View) (may : Bool) → (may ≡ true → W set.number to)
      → Each IsSuch s.promises → Each IsSuch (promise_by s to set may).state.promises
  promise_by_such s to set true new all = each_append IsSuch s.promises _ all (new refl, tt)
  promise_by_such s to set false new all = all

  promise_such : (s : QmgrState) (to : ℕ) (set : View) → (may_promise s.known set ≡ true → W set.number to)
      → Each IsSuch s.promises → Each IsSuch (promise_row s to set).state.promises
  unfolding promise_row
  promise_such s to set new all = promise_by_such s to set (may_promise s.known set) new all

  -- whatever a signal asks for that may be promised
  abbrev IsNew : QmgrState → Member → Body → Type 0
  IsNew s member body =
      (set : View) → body ≡ Membership (PrepFailReq set) → may_promise s.known set ≡ true → W set.number member.node

  membership_such : (s : QmgrState) (host : ℕ) (member : Member) (signal : MembershipSignal)
      → IsNew s member (Membership signal) → Each IsSuch s.promises
      → Each IsSuch (membership_table s host member signal).state.promises
  membership_such s host member (PrepFailReq proposal) new all =
      promise_such s member.node proposal (new proposal refl) all
  membership_such s host member FenceConf new all = fence_such s host all
  membership_such s host member _ new all = all

  pub table_such : (s : QmgrState) (host : ℕ) (member : Member) (number : ℕ) (body : Body) → IsNew s member body
      → Each IsSuch s.promises → Each IsSuch (qmgr_table s host member number body).state.promises
  table_such s host member number (Membership signal) new all = membership_such s host member signal new all
  table_such s host member number _ new all = all

-- what may be promised is the last promise then
promise_by_sets : (s : QmgrState) (to : ℕ) (set : View) (may : Bool) → may_promise s.known set ≡ true → may ≡ true
    → (promise_by s to set may).state.known.promised ≡ set
promise_by_sets s to set true allowed e =
    let k = s.known in
    let l = promising (with_absent k set) set in
    let above : k.promised.number < set.number = higher k set allowed in
    (moves_told_if (Unit {0}) k l set (promised_like k set) (omega arith) (has_more k l)).promised
promise_by_sets s to set false allowed e = absurd (false≢true e)

promise_sets : (s : QmgrState) (to : ℕ) (set : View) → may_promise s.known set ≡ true
    → (promise_row s to set).state.known.promised ≡ set
unfolding promise_row
promise_sets s to set allowed = promise_by_sets s to set (may_promise s.known set) allowed allowed

pub row_sets : (s : QmgrState) (x : Signal) (set : View) → x.body ≡ Membership (PrepFailReq set)
    → may_promise s.known set ≡ true → (qmgr_row s x).state.known.promised ≡ set
row_sets s x set asks allowed =
    subst (λ (body : Body). (qmgr_table s x.from.0 x.member x.view.number body).state.known.promised ≡ set) (sym asks)
    (promise_sets s x.member.node set allowed)

-- it stands among all promises
newest_if : (before now : View) (older : List Promised) (same : Bool) → (before.number == now.number) ≡ same
    → before.number < now.number
    → IsIn (record { set = now; adopted = false })
    ((if same then [] else record { set = now; adopted = false } ∷ []) ++ older)
newest_if before now older true e above =
    let equal : before.number ≡ now.number = eqb-true before.number now.number e in
    absurd (omega arith)
newest_if before now older false e above = inl refl

newest : (s : QmgrState) (x : Signal) (older : List Promised) (set : View) → x.body ≡ Membership (PrepFailReq set)
    → may_promise s.known set ≡ true
    → IsIn (record { set = set; adopted = false })
    ((if s.known.promised.number == (qmgr_row s x).state.known.promised.number
    then []
    else record { set = (qmgr_row s x).state.known.promised; adopted = false } ∷ [])
    ++ older)
newest s x older set asks allowed =
    subst
    (λ (now : View).
    IsIn (record { set = set; adopted = false })
    ((if s.known.promised.number == now.number then [] else record { set = now; adopted = false } ∷ []) ++ older))
    (sym (row_sets s x set asks allowed))
    (newest_if s.known.promised set older (s.known.promised.number == set.number) refl (higher s.known set allowed))

-- a promise of the number was asked for by a member of the node
pub record IsPending (me : Member) (layout : Layout) (events : List Event) (number to : ℕ) : Type 0 where
  pub set : View
  pub number_is : set.number ≡ number
  pub promised : IsIn (record { set = set; adopted = false }) (promises_of me layout events)
  pub request : Signal
  pub taken : IsIn request (taken_in events)
  pub asks : request.body ≡ Membership (PrepFailReq set)
  pub by : request.member.node ≡ to

taken_more : (event : Event) (events : List Event) (x : Signal) → IsIn x (taken_in events)
    → IsIn x (taken_in (event ∷ events))
taken_more (takes y) events x is = inr is
taken_more (installs view) events x is = is

pub pending_more : (me : Member) (layout : Layout) (event : Event) (events : List Event) (number to : ℕ)
    → IsPending me layout events number to → IsPending me layout (event ∷ events) number to
pending_more me layout event events number to one = record {
  set = one.set;
  number_is = one.number_is;
  promised = in_append _ _ (promises_of me layout events) one.promised;
  request = one.request;
  taken = taken_more event events one.request one.taken;
  asks = one.asks;
  by = one.by;
}

-- so it is of each promise that waits
pub pending : (me : Member) (layout : Layout) (events : List Event)
    → Each (λ promise. IsPending me layout events promise.number promise.to) (state_of me layout events).promises
pending me layout [] = tt
pending me layout (takes x ∷ events) =
    let s = state_of me layout events in
    let all =
    each_map _ (λ promise. IsPending me layout (takes x ∷ events) promise.number promise.to) s.promises
    (λ promise one. pending_more me layout (takes x) events promise.number promise.to one) (pending me layout events) in
    table_such (IsPending me layout (takes x ∷ events)) s x.from.0 x.member x.view.number x.body
    (λ set asks allowed. record {
      set = set;
      number_is = refl;
      promised = newest s x (promises_of me layout events) set asks allowed;
      request = x;
      taken = inl refl;
      asks = asks;
      by = refl;
    })
    all
pending me layout (installs view ∷ events) =
    each_map _ (λ promise. IsPending me layout (installs view ∷ events) promise.number promise.to)
    (state_of me layout events).promises
    (λ promise one. pending_more me layout (installs view) events promise.number promise.to one)
    (pending me layout events)
