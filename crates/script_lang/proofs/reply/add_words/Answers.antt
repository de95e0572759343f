use Rattle.std.proofs.Common.{◌≡◌, ◌++◌, OnOk, subst, sym}
use Rattle.sig_core.specs.declared.reply.ApiReply.{ApiReply}
use Rattle.script_lang.specs.ReplyText.{reply_words}
use Rattle.script_lang.proofs.reply.add_words.Goals as goal

pub returns-in-Unsubscribed : goal.returns-in-Unsubscribed
returns-in-Unsubscribed c =
    subst (λ (reply : ApiReply). OnOk c.add_subscribed-in-Unsubscribed.result
    (c.add_subscribed-in-Unsubscribed.new.line.items ≡ c.args.line.now.items ++ reply_words reply))
    (sym c.in-Unsubscribed.is) c.add_subscribed-in-Unsubscribed.ensures
