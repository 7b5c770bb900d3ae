mod Callers
