use Rattle.command_texts.proofs.refusal.Refusal.line.Goals as goal

pub returns-in-IndexOutOfRange : goal.returns-in-IndexOutOfRange
returns-in-IndexOutOfRange c = rw c.in-IndexOutOfRange.is c.format-in-IndexOutOfRange.ensures.ok

pub returns-in-LineOutOfRange : goal.returns-in-LineOutOfRange
returns-in-LineOutOfRange c = rw c.in-LineOutOfRange.is c.format-in-LineOutOfRange.ensures.ok

pub returns-in-NoPacket : goal.returns-in-NoPacket
returns-in-NoPacket c = rw c.in-NoPacket.is c.format-in-NoPacket.ensures.ok

pub returns-in-FrameTooLong : goal.returns-in-FrameTooLong
returns-in-FrameTooLong c = rw c.in-FrameTooLong.is c.format-in-FrameTooLong.ensures.ok

pub returns-in-BadBody : goal.returns-in-BadBody
returns-in-BadBody c = rw c.in-BadBody.is c.format-in-BadBody.ensures.ok

pub returns-in-FileTooLong : goal.returns-in-FileTooLong
returns-in-FileTooLong c = rw c.in-FileTooLong.is c.format-in-FileTooLong.ensures.ok

pub returns-in-FileTooMany : goal.returns-in-FileTooMany
returns-in-FileTooMany c = rw c.in-FileTooMany.is c.format-in-FileTooMany.ensures.ok

pub returns-in-TooManyHeads : goal.returns-in-TooManyHeads
returns-in-TooManyHeads c = rw c.in-TooManyHeads.is c.format-in-TooManyHeads.ensures.ok
