-- What is under way in a closing its host takes as something of a closing, and it is well formed.
use Rattle.std.proofs.Common.{◌≡◌, ◌≤◌, ◌<◌, inl, inr, ℕ, zero, suc, ◌+◌, ◌*◌, ◌%◌, Bool, true, false, refl, ap, sym}
use Rattle.std.proofs.Common.{◌∙◌}
use Rattle.std.proofs.Common.{subst, arith}
use Rattle.std.specs.Prelude.{◌&&◌, ◌^◌, nat_lt}
use Rattle.std.proofs.lemmas.Bool.{false≢true}
use Rattle.std.proofs.lemmas.Nat.{mod-mul-add}
use Rattle.api_views.specs.declared.closings.Closing.{Closing}
use Rattle.api_views.specs.declared.closings.Closing.TheVariants.{Gcp, Micro, Lcp}
use Rattle.api_views.specs.Closings.{ask_of}
use Rattle.frag_map.specs.Layout.{members}
use Rattle.frag_map.specs.Shape.{IsShape}
use Rattle.gcp_master.specs.declared.orders.Order.{Order}
use Rattle.gcp_master.specs.declared.orders.Order.TheVariants as order
use Rattle.gcp_master.specs.Orders.{mask_of, order_body}
use Rattle.node_views.specs.WellFormed.{is_body_sound, is_mask}
use Rattle.sig_core.specs.declared.outcome.StopCause.{StopCause}
use Rattle.sig_core.specs.declared.outs.Outgoing.{Outgoing}
use Rattle.sig_core.specs.declared.place.BlockId.TheVariants as block
use Rattle.sig_core.specs.declared.signal.Body.{Body}
use Rattle.sig_core.specs.declared.signal.Body.TheVariants.{Host, Epoch}
use Rattle.sig_core.specs.declared.signal.epoch.EpochSignal.{EpochSignal}
use Rattle.sig_core.specs.declared.signal.epoch.EpochSignal.TheVariants as signal
use Rattle.sig_core.specs.declared.signal.host.HostSignal.TheVariants.{Closed}
use Rattle.sig_core.specs.Place.{checkpoints}
use Rattle.sig_core.specs.Step.{to_place}
use Rattle.world_core.specs.Hosts.{first_hosts, part_by}
use Rattle.world_core.specs.Start.{Start}
use Rattle.calm_laws.specs.Plain.{is_beating, is_main}
use Rattle.peace_laws.specs.Closing.{Course, closes_epoch, host_in, main}
use Rattle.peace_laws.specs.Moments.{Moment}
use Rattle.peace_laws.specs.Peace.{has_closer, is_closer, is_for_closing}
use Rattle.peace_laws.specs.UnderWay.{HasMask, IsAnswer, IsLetter, IsOrder, answer, block_of}
use Rattle.peace_laws.specs.UnderWay.{going_on, order_to, report_by, report_of}
use Rattle.peace_laws.proofs.near.Seen.{IsSend}

-- The hosts of a member.
part_in : (place : ℕ) (rows : Bool) → is_closer (part_by ((place * 3 + 1) % 3)) block.Dih ≡ true
part_in place rows = ap (λ left. is_closer (part_by left) block.Dih) (mod-mul-add place 3 1 (omega arith))

rows_in : (place : ℕ) → is_closer (part_by ((place * 3 + 2) % 3)) block.Lqh ≡ true
rows_in place = ap (λ left. is_closer (part_by left) block.Lqh) (mod-mul-add place 3 2 (omega arith))

has_block_of : (place : ℕ) (rows : Bool) → has_closer (host_in place rows) (block_of rows) ≡ true
has_block_of place false = part_in place false
has_block_of place true = rows_in place

-- none of them is a main part
member_rests : (place : ℕ) (rows : Bool) → is_beating (host_in place rows) ≡ false
member_rests place false = ap (λ left. is_main (part_by left)) (mod-mul-add place 3 1 (omega arith))
member_rests place true = ap (λ left. is_main (part_by left)) (mod-mul-add place 3 2 (omega arith))

member_low : (start : Start) (place : ℕ) (rows : Bool) → place < start.shape.nodes
    → host_in place rows < first_hosts start
member_low start place false low = omega (arith, low)
member_low start place true low = omega (arith, low)

-- the mask of all members
mask_fits : (n : ℕ) → 1 ≤ n → n ≤ 8
    → (nat_lt 0 (mask_of (members n)) && nat_lt (mask_of (members n)) (2 ^ n)) ≡ true
unfolding mask_of
mask_fits zero some few = absurd (omega (arith, some))
mask_fits (suc zero) some few = refl
mask_fits (suc (suc zero)) some few = refl
mask_fits (suc (suc (suc zero))) some few = refl
mask_fits (suc (suc (suc (suc zero)))) some few = refl
mask_fits (suc (suc (suc (suc (suc zero))))) some few = refl
mask_fits (suc (suc (suc (suc (suc (suc zero)))))) some few = refl
mask_fits (suc (suc (suc (suc (suc (suc (suc zero))))))) some few = refl
mask_fits (suc (suc (suc (suc (suc (suc (suc (suc zero)))))))) some few = refl
mask_fits (suc (suc (suc (suc (suc (suc (suc (suc (suc n))))))))) some few = absurd (omega (arith, few))

-- A thing that is under way between hosts that are there, to a block that takes something of closings: it is well
-- formed, and no end of a link; and whoever may send it sends it for a closing.
pub record IsFit (start : Start) (i h : ℕ) (one : Outgoing) : Type 0 where
  pub from_low : i < first_hosts start
  pub low : h < first_hosts start
  pub beats : is_beating h ≡ true → h ≡ main
  pub block : has_closer h one.to.block ≡ true
  pub sound : is_body_sound start.shape one.body ≡ true
  pub open_link : (cause : StopCause) → one.body ≡ Host (Closed cause) → ⊥
  pub closing : IsSend i one.to.block one.body → is_for_closing one.to.block one.body ≡ true

pub fit_at : (start : Start) (i h k l : ℕ) (one other : Outgoing) → i ≡ k → h ≡ l → one ≡ other → IsFit start k l other
    → IsFit start i h one
fit_at start i h k l one other from to is fit =
    subst (λ a. IsFit start a h one) (sym from)
    (subst (λ b. IsFit start k b one) (sym to) (subst (IsFit start k l) (sym is) fit))

module _ (start : Start) (shape : IsShape start.shape) (c : Course) where
  main_there : main < first_hosts start
  main_there = omega (arith, shape.nodes_some)

  -- an order of the master
  order_sound : (o : Order) → IsOrder c o → HasMask start o → is_body_sound start.shape (order_body o) ≡ true
  unfolding order_body
  order_sound order.State fits mask = absurd fits
  order_sound (order.Prepare epoch next) fits mask = refl
  order_sound (order.Commit epoch next) fits mask = refl
  order_sound (order.Close epoch) fits mask = refl
  order_sound (order.Save epoch) fits mask = refl
  order_sound (order.Copy epoch m) fits mask =
      ap (is_mask start.shape) mask ∙ mask_fits start.shape.nodes shape.nodes_some shape.nodes_few
  order_sound (order.Done epoch) fits mask = refl
  order_sound order.Walk fits mask = absurd fits
  order_sound order.Switch fits mask = absurd fits

  order_open : (o : Order) (cause : StopCause) → order_body o ≡ Host (Closed cause) → ⊥
  unfolding order_body
  order_open order.State cause is = absurd (cc (is))
  order_open (order.Prepare epoch next) cause is = absurd (cc (is))
  order_open (order.Commit epoch next) cause is = absurd (cc (is))
  order_open (order.Close epoch) cause is = absurd (cc (is))
  order_open (order.Save epoch) cause is = absurd (cc (is))
  order_open (order.Copy epoch m) cause is = absurd (cc (is))
  order_open (order.Done epoch) cause is = absurd (cc (is))
  order_open order.Walk cause is = absurd (cc (is))
  order_open order.Switch cause is = absurd (cc (is))

  order_closes : (rows : Bool) (body : Body) → IsSend main (block_of rows) body
      → is_for_closing (block_of rows) body ≡ true
  order_closes false body (inl calm) = absurd (false≢true (calm.views refl))
  order_closes true body (inl calm) = absurd (false≢true (calm.views refl))
  order_closes rows body (inr closing) = closing.closing

  order_fits : (place : ℕ) → place < start.shape.nodes → (rows : Bool) (o : Order) → IsOrder c o → HasMask start o
      → IsFit start main (host_in place rows) (order_to o place rows)
  order_fits place low rows o fits mask =
      record {
        from_low = main_there;
        low = member_low start place rows low;
        beats = λ beats. absurd (false≢true (sym (member_rests place rows) ∙ beats));
        block = has_block_of place rows;
        sound = order_sound o fits mask;
        open_link = order_open o;
        closing = order_closes rows (order_body o);
      }

  -- an answer of a member
  answer_sound : (committed : Type 0) (s : EpochSignal) → IsAnswer committed s
      → is_body_sound start.shape (Epoch s) ≡ true
  answer_sound committed (signal.GcpPrepareConf epoch) is = refl
  answer_sound committed (signal.GcpNodeFinish epoch) is = refl
  answer_sound committed (signal.GcpClosedConf epoch) is = refl
  answer_sound committed (signal.GcpSaveConf epoch) is = refl
  answer_sound committed (signal.CopyGciConf epoch) is = refl
  answer_sound committed s is = absurd is

  answer_closes : (committed : Type 0) (s : EpochSignal) → IsAnswer committed s
      → is_for_closing block.GcpMaster (Epoch s) ≡ true
  answer_closes committed (signal.GcpPrepareConf epoch) is = refl
  answer_closes committed (signal.GcpNodeFinish epoch) is = refl
  answer_closes committed (signal.GcpClosedConf epoch) is = refl
  answer_closes committed (signal.GcpSaveConf epoch) is = refl
  answer_closes committed (signal.CopyGciConf epoch) is = refl
  answer_closes committed s is = absurd is

  answer_fits : (place : ℕ) → place < start.shape.nodes → (rows : Bool) (committed : Type 0) (s : EpochSignal)
      → IsAnswer committed s → IsFit start (host_in place rows) main (answer s)
  answer_fits place low rows committed s is =
      record {
        from_low = member_low start place rows low;
        low = main_there;
        beats = λ beats. refl;
        block = refl;
        sound = answer_sound committed s is;
        open_link = λ cause same. absurd (cc (same));
        closing = λ send. answer_closes committed s is;
      }

  -- the master's own signal, and its report
  going_fits : (at : ℕ) → IsFit start main main (going_on at)
  going_fits at =
      record {
        from_low = main_there;
        low = main_there;
        beats = λ beats. refl;
        block = refl;
        sound = refl;
        open_link = λ cause same. absurd (cc (same));
        closing = λ send. refl;
      }

  report_sound : (epoch : ℕ) (kind : Closing) → is_body_sound start.shape (Epoch (report_by epoch kind)) ≡ true
  report_sound epoch Gcp = refl
  report_sound epoch Micro = refl
  report_sound epoch Lcp = refl

  report_closes : (epoch : ℕ) (kind : Closing) → is_for_closing block.Api (Epoch (report_by epoch kind)) ≡ true
  report_closes epoch Gcp = refl
  report_closes epoch Micro = refl
  report_closes epoch Lcp = refl

  report_fits : IsFit start main 0 (report_of c)
  report_fits =
      record {
        from_low = main_there;
        low = omega arith;
        beats = λ beats. absurd (false≢true beats);
        block = refl;
        sound = report_sound c.epoch c.kind;
        open_link = λ cause same. absurd (cc (same));
        closing = λ send. report_closes c.epoch c.kind;
      }

  -- the request
  request_sound : (kind : Closing) → is_body_sound start.shape (ask_of kind) ≡ true
  request_sound Gcp = refl
  request_sound Micro = refl
  request_sound Lcp = refl

  request_open : (kind : Closing) (cause : StopCause) → ask_of kind ≡ Host (Closed cause) → ⊥
  request_open Gcp cause is = absurd (cc (is))
  request_open Micro cause is = absurd (cc (is))
  request_open Lcp cause is = absurd (cc (is))

  request_closes : (kind : Closing) → closes_epoch kind ≡ true → is_for_closing block.GcpMaster (ask_of kind) ≡ true
  request_closes Gcp closes = refl
  request_closes Micro closes = refl
  request_closes Lcp closes = absurd (false≢true closes)

  pub request_fits : IsFit start 0 main (to_place (checkpoints 1) (ask_of c.kind))
  request_fits =
      record {
        from_low = omega arith;
        low = main_there;
        beats = λ beats. refl;
        block = refl;
        sound = request_sound c.kind;
        open_link = request_open c.kind;
        closing = λ send. request_closes c.kind c.closes;
      }

  -- whatever is under way
  pub letter_fits : (m : Moment) (i h : ℕ) (one : Outgoing) → IsLetter start c m i h one → IsFit start i h one
  letter_fits m i h one (inl o) =
      fit_at start i h main (host_in o.place o.rows) one (order_to o.order o.place o.rows) o.from o.to o.is
      (order_fits o.place o.low o.rows o.order o.fits o.mask)
  letter_fits m i h one (inr (inl a)) =
      fit_at start i h (host_in a.place a.rows) main one (answer a.signal) a.from a.to a.is
      (answer_fits a.place a.low a.rows _ a.signal a.fits)
  letter_fits m i h one (inr (inr (inl g))) =
      fit_at start i h main main one (going_on g.at) g.from g.to g.is (going_fits g.at)
  letter_fits m i h one (inr (inr (inr r))) = fit_at start i h main 0 one (report_of c) r.from r.to r.is report_fits
