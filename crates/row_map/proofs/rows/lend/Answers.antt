use Rattle.std.proofs.Common.{rules, ◌≡◌, ◌∙◌, [], ◌++◌, append-nil, ap, map, sym, subst}
use Rattle.std.proofs.lemmas.Map.Iter.{rest_all, rest_more}
use Rattle.std.specs.List.{AllByRecursion, IsDistinct}
use Rattle.std.specs.Map.{keys_of}
use Rattle.std.specs.Map.Iter.{deref_pair}
use Rattle.row_map.specs.Stored.{IsStored, rows_at, same}
use Rattle.row_map.proofs.StoredLemmas.{all_stored, one_more, same_keys, values_more}
use Rattle.row_map.proofs.rows.lend.Goals as goal

pub loop-key-init : goal.loop-key-init
loop-key-init c =
    let all : c.into_iter-key-iterator.result ≡ c.args.places.now.entries = cc in
    record {
      rows = search rules;
      left =
          subst (AllByRecursion (λ e. IsStored c.args.bytes.now e.1)) (sym all)
          (all_stored c.args.bytes.now c.args.places.now.entries c.requires c.iter-key-items.ensures.unique);
      values = search rules;
    }

pub loop-key-preserved : goal.loop-key-preserved
loop-key-preserved c =
    let bytes = c.args.bytes.now in
    let more = rest_more deref_pair c.loop-key.key-iterator c.next.new.self c.next.result _ c.in-Some.is c.next.ensures.steps in
    record {
      rows =
          one_more deref_pair bytes c.loop-key.rows.items c.push.new.self.items (c.in-Some.key, c.bytes_at.result)
          c.loop-key.key-iterator c.next.new.self (c.in-Some.key.now, c.in-Some.stored.now)
          (rows_at bytes c.into_iter-key-iterator.result) c.in_ok-push.ensures.items more
          (ap (λ value. (c.in-Some.key.now, value)) c.bytes_at.ensures.bytes)
          c.loop-key.invariant.rows;
      left = (subst (AllByRecursion (λ e. IsStored bytes e.1)) more c.loop-key.invariant.left).1;
      values =
          values_more deref_pair c.loop-key.rows.items c.push.new.self.items (c.in-Some.key, c.bytes_at.result)
          c.in_ok-push.ensures.items c.loop-key.invariant.values c.bytes_at.ensures.value;
    }

pub returns-clause-distinct : goal.returns-clause-distinct
returns-clause-distinct c =
    let bytes = c.args.bytes.now in
    let last : c.loop-key.key-iterator ≡ [] =
    rest_all deref_pair c.loop-key.key-iterator c.next.new.self c.next.result c.in-None.is c.next.ensures.steps in
    let all : map deref_pair c.loop-key.rows.items ≡ rows_at bytes c.into_iter-key-iterator.result =
    sym (append-nil (map deref_pair c.loop-key.rows.items))
    ∙ ap (λ rest. map deref_pair c.loop-key.rows.items ++ rows_at bytes rest) (sym last)
    ∙ c.loop-key.invariant.rows in
    let places : c.into_iter-key-iterator.result ≡ c.args.places.now.entries = cc in
    let keys : keys_of (map deref_pair c.loop-key.rows.items) ≡ keys_of c.args.places.now.entries =
    ap keys_of all ∙ same_keys bytes c.into_iter-key-iterator.result ∙ ap keys_of places in
    subst (IsDistinct same) (sym keys) c.iter-key-items.ensures.unique
