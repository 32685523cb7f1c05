use Rattle.std.proofs.Common.{Option, map, take}
use Rattle.wireclient.specs.Views.{reply_item_of}
use Rattle.reflector.specs.Client.{Client}
use Rattle.reflector.specs.InformerViews.{RepresentsExceptReader, SameSetup, settings_in}
use Rattle.reflector.specs.ReadingViews.{ReadsOn}
use Rattle.reflector.specs.Run.{receives_all}
use Rattle.reflector.specs.RelistReasons.{relist_reason_after}
use Rattle.reflector.specs.declared.relist_reason.RelistReason.{RelistReason}
use Rattle.reflector.proofs.informer.Informer.receive_all.Given as goal

abbrev pub invariant-loop-item : goal.invariant-loop-item
invariant-loop-item g l = record {
  received : (c : Client) (t : Option RelistReason) → RepresentsExceptReader g.I.IndexBy.keys l.fn.self c t
      → RepresentsExceptReader g.I.IndexBy.keys l.self (receives_all (settings_in l.fn.self).wanted c (map reply_item_of (take l.item-index l.items)))
      (relist_reason_after (settings_in l.fn.self).wanted c t (map reply_item_of (take l.item-index l.items)));
  read : ReadsOn l.fn.self.reply l.self.reply;
  setup : SameSetup l.fn.self l.self;
}
