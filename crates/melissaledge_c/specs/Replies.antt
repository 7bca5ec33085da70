-- The numbers that give C a reply of a machine.
use Rattle.std.specs.Prelude.{Some, None}
use Rattle.pte.specs.declared.address.What.{What}
use Rattle.pte.specs.declared.address.What.TheVariants as what
use Rattle.pte.specs.Address.{bytes_of}
use Rattle.history.specs.Numbers.{code_of}
use Rattle.history.specs.declared.reply.Reply.{Reply}
use Rattle.history.specs.declared.reply.Reply.TheVariants as reply
use Rattle.melissaledge_c.specs.declared.replies.ReplyGiven.{ReplyGiven}
use Rattle.melissaledge_c.specs.declared.requests.WhatAsked.{WhatAsked}
use Rattle.melissaledge_c.specs.Codes.{why_code}

abbrev pub zero_what : WhatAsked
zero_what = record { page_base = 0; page_bytes = 0; asid = 0; has_asid = 0; kind = 0 }

abbrev pub zero_reply : ReplyGiven
zero_reply = record { value = 0; what = zero_what; kind = 0; cause = 0; why = 0; refusal = 0 }

abbrev pub what_given : What → WhatAsked
what_given (what.PageOf page None) =
    record {
      page_base = page.base;
      page_bytes = bytes_of page.size;
      asid = 0;
      has_asid = 0;
      kind = 0;
    }
what_given (what.PageOf page (Some asid)) =
    record {
      page_base = page.base;
      page_bytes = bytes_of page.size;
      asid = asid;
      has_asid = 1;
      kind = 0;
    }
what_given (what.SpaceOf asid) = record zero_what { asid = asid; kind = 1 }
what_given what.All = record zero_what { kind = 2 }

abbrev pub reply_given : Reply → ReplyGiven
reply_given (reply.Hit pa) = record zero_reply { kind = 0; value = pa }
reply_given (reply.Trap trap) =
    record zero_reply { kind = 1; cause = trap.cause; why = why_code trap.why }
reply_given reply.More = record zero_reply { kind = 2 }
reply_given (reply.Filled pa) = record zero_reply { kind = 3; value = pa }
reply_given (reply.Table ppn) = record zero_reply { kind = 4; value = ppn }
reply_given reply.Leaf = record zero_reply { kind = 5 }
reply_given (reply.Opened ticket) = record zero_reply { kind = 6; value = ticket }
reply_given reply.Ok = record zero_reply { kind = 7 }
reply_given (reply.Taken request) =
    record zero_reply { kind = 8; value = request.ticket; what = what_given request.what }
reply_given reply.Done = record zero_reply { kind = 9 }
reply_given (reply.Waiting named) = record zero_reply { kind = 10; value = named }
reply_given (reply.Refused refusal) = record zero_reply { kind = 11; refusal = code_of refusal }
