-- What several owners share, without where it lies in memory.
use Rattle.std.specs.Rc.{rc_str_bytes}
use Rattle.history.specs.History.{Object}
use Rattle.revstore.specs.declared.shared.SharedObject.{SharedObject}

-- what stands under a key
abbrev pub object_in : SharedObject → Object
object_in o = record { revision = o.revision; body = rc_str_bytes o.body }
